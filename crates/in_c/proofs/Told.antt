-- Diagnoses as data, refusals and steps, each with its status.
use Rattle.std.proofs.Common.{◌≡◌, List, ℕ, [], Vec, Global, Bool, true, false, Some, None, Ok, inl, inr, refl, subst}
use Rattle.in_syntax.specs.declared.faults.Refusal.{Refusal}
use Rattle.in_syntax.specs.declared.text_limits.TextLimits.{TextLimits}
use Rattle.in_check.specs.Checking.{IsCertified, IsRefused}
use Rattle.in_check.specs.Programs.{Certified}
use Rattle.in_diagnosis.specs.Data.{IsToldAsData}
use Rattle.in_certificates.specs.declared.given.GivenStep.{GivenStep}
use Rattle.in_certificates.specs.Verifying.{Verifies}
use Rattle.in_program.specs.Acting.{status}
use Rattle.in_c.specs.declared.refusing.Numbers.{Numbers}
use Rattle.in_c.specs.Answers.{IsDiagnosisData, IsRefusedAs, IsVerified}
use Rattle.in_c.specs.Numbers.{no_numbers, numbers_of}

pub data_told : (limits : TextLimits) (text : List ℕ) (line : Vec ℕ Global) → IsToldAsData limits text (Some line) → IsDiagnosisData limits text line.items (status 1)
data_told limits text line (r, refuses, is) = inl (r, refuses, (is, refl))

pub nothing_told : (limits : TextLimits) (text bytes : List ℕ) → IsToldAsData limits text None → bytes ≡ [] → IsDiagnosisData limits text bytes (status 0)
nothing_told limits text bytes (p, accepts) none = inr (inl (p, accepts, (none, refl)))

pub not_refused : (limits : TextLimits) (text : List ℕ) (p : Certified) (n : Numbers) → IsCertified limits text p → n ≡ no_numbers → IsRefusedAs limits text n (status 0)
not_refused limits text p n accepts none = inr (inl (p, accepts, (none, refl)))

pub refused_as : (limits : TextLimits) (text : List ℕ) (r : Refusal) (n : Numbers) → IsRefused limits text r → n ≡ numbers_of r → IsRefusedAs limits text n (status 1)
refused_as limits text r n refuses are = inl (r, refuses, (are, refl))

abbrev only_false : Bool → Type 0
only_false true = ⊥
only_false false = Unit {0}

not_true : false ≡ true → ⊥
not_true e = subst only_false e tt

pub builds : (limits : TextLimits) (text : List ℕ) (k : ℕ) (given : List GivenStep) (parts : List ℕ) → Verifies limits text k given parts (Ok true) → IsVerified limits text k given parts (status 0)
builds limits text k given parts (p, accepts, whether) = inl (p, accepts, inl (whether.0 refl, refl))

pub fails : (limits : TextLimits) (text : List ℕ) (k : ℕ) (given : List GivenStep) (parts : List ℕ) → Verifies limits text k given parts (Ok false) → IsVerified limits text k given parts (status 2)
fails limits text k given parts (p, accepts, whether) = inl (p, accepts, inr (λ steps. not_true (whether.1 steps), refl))

pub without_program : (limits : TextLimits) (text : List ℕ) (k : ℕ) (given : List GivenStep) (parts : List ℕ) (r : Refusal) → IsRefused limits text r → IsVerified limits text k given parts (status 1)
without_program limits text k given parts r refuses = inr (inl (r, refuses, refl))
