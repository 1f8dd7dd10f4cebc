-- An alignment, and those behind it.

use Rattle.std.proofs.Common.{◌≡◌, ℕ, ◌+◌, ◌^◌, ◌<◌, ◌≤◌, true, ◌&&◌, nat_lt, nat_le, List, ◌∷◌}
use Rattle.std.proofs.lemmas.Bool.{ltb-true, leb-true, le-leb, lt-ltb, and_parts, and_from}
use Rattle.rv_object_laws.specs.Object.{Relocation}
use Rattle.rv_link_laws.specs.Moves.{full_padding}
use Rattle.rv_cut_laws.specs.Alignments.{is_next_alignment, are_alignments}

-- an alignment that stands behind others
pub record IsNextAlignment (stop : ℕ) (r : Relocation) : Type 0 where
  pub from : stop ≤ r.place
  pub short : full_padding r ≤ 4094
  pub low : r.place + full_padding r < 2 ^ 64

pub next_alignment : (stop : ℕ) (r : Relocation) (rs : List Relocation) → are_alignments stop (r ∷ rs) ≡ true → IsNextAlignment stop r
next_alignment stop r rs h =
    let all = and_parts (is_next_alignment stop r) (are_alignments (r.place + full_padding r) rs) h in
    let one = and_parts (nat_le stop r.place) (nat_le (full_padding r) 4094 && nat_lt (r.place + full_padding r) (2 ^ 64)) all.0 in
    let two = and_parts (nat_le (full_padding r) 4094) (nat_lt (r.place + full_padding r) (2 ^ 64)) one.1 in
    record {
      from = leb-true stop r.place one.0;
      short = leb-true (full_padding r) 4094 two.0;
      low = ltb-true (r.place + full_padding r) (2 ^ 64) two.1;
    }

pub other_alignments : (stop : ℕ) (r : Relocation) (rs : List Relocation) → are_alignments stop (r ∷ rs) ≡ true → are_alignments (r.place + full_padding r) rs ≡ true
other_alignments stop r rs h = (and_parts (is_next_alignment stop r) (are_alignments (r.place + full_padding r) rs) h).1

pub next_is : (stop : ℕ) (r : Relocation) (rs : List Relocation) → IsNextAlignment stop r → are_alignments (r.place + full_padding r) rs ≡ true → are_alignments stop (r ∷ rs) ≡ true
next_is stop r rs one more =
    and_from (is_next_alignment stop r) (are_alignments (r.place + full_padding r) rs)
    (and_from (nat_le stop r.place) (nat_le (full_padding r) 4094 && nat_lt (r.place + full_padding r) (2 ^ 64)) (le-leb stop r.place one.from)
    (and_from (nat_le (full_padding r) 4094) (nat_lt (r.place + full_padding r) (2 ^ 64)) (le-leb (full_padding r) 4094 one.short) (lt-ltb (r.place + full_padding r) (2 ^ 64) one.low)))
    more
