-- Numbers of a record that is cut out of its section.

use Rattle.std.proofs.Common.{◌≡◌, ℕ, ◌+◌, ◌-◌, ◌≤◌, List, take, drop, ap, ◌∙◌, arith}
use Rattle.std.proofs.lemmas.List.{drop-drop, drop-take}
use Rattle.byteorder.specs.Endian.{little_number}
use Rattle.byteorder.specs.Numbers.{little_from-take}
use Rattle.rv_elf_laws.specs.Fields.{Field, field, number_in}

-- a field of a record whose bytes these are
pub number_here : (offset width : ℕ) (bytes : List ℕ) → little_number width (drop offset bytes) ≡ number_in (field offset width) 0 bytes
unfolding number_in
number_here offset width bytes =
    let here : offset ≡ 0 + offset = omega arith in
    ap (λ n. little_number width (drop n bytes)) here

-- a field of the first k bytes behind a place
pub number_cut : (f : Field) (p k : ℕ) (bytes : List ℕ) → f.offset + f.width ≤ k → number_in f 0 (take k (drop p bytes)) ≡ number_in f p bytes
unfolding number_in
number_cut f p k bytes inside =
    let here : 0 + f.offset ≡ f.offset = omega arith in
    let all : k ≡ f.offset + (k - f.offset) = omega (arith, inside) in
    ap (λ n. little_number f.width (drop n (take k (drop p bytes)))) here
    ∙ ap (λ n. little_number f.width (drop f.offset (take n (drop p bytes)))) all
    ∙ ap (little_number f.width) (drop-take f.offset (k - f.offset) (drop p bytes))
    ∙ little_from-take 0 f.width (k - f.offset) (drop f.offset (drop p bytes)) (omega (arith, inside))
    ∙ ap (little_number f.width) (drop-drop f.offset p bytes)
