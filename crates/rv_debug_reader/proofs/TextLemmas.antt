-- Names end before their tables do.

use Rattle.std.proofs.Common.{◌≡◌, ℕ, ◌+◌, ◌≤◌, List, [], ◌∷◌, length, Bool, true, false, Option, Some, None, refl, arith}
use Rattle.std.specs.Prelude.{◌==◌, if◌then◌else◌}
use Rattle.std.specs.Option.{option_map}
use Rattle.rv_elf_laws.specs.Sections.{before_zero}

by_byte : (t : Bool) (o : Option (List ℕ)) (b : ℕ) (bs name : List ℕ) → ((n : List ℕ) → o ≡ Some n → length n + 1 ≤ length bs) →
    (if t then Some [] else option_map (λ n. b ∷ n) o) ≡ Some name → length name + 1 ≤ length (b ∷ bs)
by_byte true o b bs name shorter is = let e : name ≡ [] = cc in rw e (omega arith)
by_byte false None b bs name shorter is = cc
by_byte false (Some n) b bs name shorter is =
    let e : name ≡ b ∷ n = cc in
    let h : length n + 1 ≤ length bs = shorter n refl in
    rw e (omega arith)

pub shorter : (bytes name : List ℕ) → before_zero bytes ≡ Some name → length name + 1 ≤ length bytes
shorter [] name is = cc
shorter (b ∷ bs) name is = by_byte (b == 0) (before_zero bs) b bs name (λ n e. shorter bs n e) is
