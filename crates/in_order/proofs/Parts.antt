-- Nets that are reduced in parts, over whole runs: wires that are cut and joined again, and nets side by side.
pub mod BesideSound
pub mod CutDown
pub mod CutOnce
pub mod Leading
