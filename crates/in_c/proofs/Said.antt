-- The bytes in a writer that was empty are the output.
use Rattle.std.proofs.Common.{◌≡◌, ◌≢◌, ◌⊎◌, List, ℕ, Vec, Global, [], Option, Some, IfOk, Result, Ok, Err, sym, subst, ap, ◌∙◌, inl, inr}
use Rattle.std.proofs.lemmas.Option.{same_Some}
use Rattle.in_syntax.specs.Streams.{Device}
use Rattle.in_program.specs.declared.acting.Status.{Status}
use Rattle.in_program.specs.Acting.{TellsOne, WantsMemory, fault_status}
use Rattle.in_c.specs.declared.answers.Answer.{Answer}

abbrev device : Option (List ℕ) → ℕ → Device
device bytes failures = record { bytes = bytes; failures = failures }

-- nothing was taken yet, and no write failed
abbrev fresh : Device
fresh = device (Some []) 0

said : (So : List ℕ → Status → Type 0) (bytes : List ℕ) (failures : ℕ) (s : Status) → TellsOne So fresh (device (Some bytes) failures) s → s ≢ fault_status → So bytes s ⊎ WantsMemory bytes s
said So bytes failures s (lines, t, so, inr fault) sound = absurd (sound fault.1)
said So bytes failures s (lines, t, so, inl (moves, is)) sound =
    let all : lines ≡ bytes = same_Some lines bytes (sym moves.moved) in
    subst (λ (z : Status). So bytes z ⊎ WantsMemory bytes z) (sym is) (subst (λ (z : List ℕ). So z t ⊎ WantsMemory z t) all so)

pub begins : (bytes : List ℕ) (failures : ℕ) → bytes ≡ [] → failures ≡ 0 → device (Some bytes) failures ≡ fresh
begins bytes failures none sound = ap (λ (z : List ℕ). device (Some z) failures) none ∙ ap (λ (z : ℕ). device (Some []) z) sound

-- the answer with these bytes
pub answered : {E : Type 0} (So : List ℕ → Status → Type 0) (w : Device) (bytes : Vec ℕ Global) (failures : ℕ) (s : Status) (r : Result Answer E) → w ≡ fresh → TellsOne So w (device (Some bytes.items) failures) s
    → IfOk r (λ a. (a.bytes ≡ bytes) × (a.status ≡ s) × (s ≢ fault_status)) → IfOk r (λ a. So a.bytes.items a.status ⊎ WantsMemory a.bytes.items a.status)
answered So w bytes failures s (Ok a) begins tells (these, this, sound) =
    let so = said So bytes.items failures s (subst (λ (z : Device). TellsOne So z (device (Some bytes.items) failures) s) begins tells) sound in
    let items : a.bytes.items ≡ bytes.items = ap (λ (z : Vec ℕ Global). z.items) these in
    subst (λ (z : Status). So a.bytes.items z ⊎ WantsMemory a.bytes.items z) (sym this) (subst (λ (z : List ℕ). So z s ⊎ WantsMemory z s) (sym items) so)
answered So w bytes failures s (Err e) begins tells h = tt
