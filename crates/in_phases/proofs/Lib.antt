mod Coming
mod Counts
mod CutTimes
mod Gathered
mod Places
mod Undoing
