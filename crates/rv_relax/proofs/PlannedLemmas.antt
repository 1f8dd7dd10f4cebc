-- The plan of alignments in order, padding by padding.

use Rattle.std.proofs.Common.{◌≡◌, ℕ, ◌+◌, ◌-◌, ◌%◌, ◌^◌, ◌<◌, true, ◌&&◌, nat_lt, nat_le, List, [], ◌∷◌, ◌++◌, map, length, take, slice_index_or, refl, sym, ap, ◌∙◌, arith}
use Rattle.std.specs.Prelude.{◌==◌}
use Rattle.std.proofs.lemmas.Bool.{le-leb, lt-ltb, eq-eqb, and_from}
use Rattle.std.proofs.lemmas.List.{append_assoc, map_push}
use Rattle.rv_size_laws.specs.Alignment.{aligned}
use Rattle.rv_object_laws.specs.Object.{Relocation}
use Rattle.rv_object_laws.specs.Padding.{no_operations}
use Rattle.rv_link_laws.specs.Moves.{Move, alignment_of, full_padding, plan}
use Rattle.rv_relax.specs.Pieces.{Piece}
use Rattle.rv_relax.specs.Paddings.{move_of, is_next, are_in_order}
use Rattle.rv_cut_laws.specs.Alignments.{are_alignments}
use Rattle.rv_object_types.specs.declared.relocation.Relocation.{Relocation as DeclaredRelocation}
use Rattle.rv_object_types.specs.Parts.{relocation_of, zeros_relocation}
use Rattle.rv_object_laws.proofs.NopsLemmas.{same_even}
use Rattle.rv_cut_laws.proofs.AlignmentsLemmas.{IsNextAlignment}
use Rattle.rv_relax.proofs.SortingLemmas.{backwards, last_first}

-- the least padding of an alignment
abbrev pub least_of : ℕ → ℕ → Relocation → ℕ
least_of start gone r = aligned (alignment_of r) (start + (r.place - gone)) - (start + (r.place - gone))

-- a padding as the plan has it
pub planned : (start gone past least : ℕ) (r : Relocation) (rs : List Relocation) (ps : List Piece) (whole : List Move) → least ≡ least_of start gone r
    → map move_of ps ++ plan start gone (r ∷ rs) ≡ whole
    → map move_of (ps ++ record { place = r.place; gone = past; full = full_padding r; left = least - least % 2; detail = tt } ∷ []) ++ plan start (gone + (full_padding r - least)) rs ≡ whole
planned start gone past least r rs ps whole is so_far =
    ap (λ l. l ++ plan start (gone + (full_padding r - least)) rs) (map_push move_of ps (record { place = r.place; gone = past; full = full_padding r; left = least - least % 2; detail = tt }))
    ∙ append_assoc (map move_of ps) (record { place = r.place; full = full_padding r; text = no_operations (least - least % 2) } ∷ []) (plan start (gone + (full_padding r - least)) rs)
    ∙ ap (λ t. map move_of ps ++ (record { place = r.place; full = full_padding r; text = t } ∷ plan start (gone + (full_padding r - least)) rs)) (same_even least)
    ∙ ap (λ n. map move_of ps ++ (record { place = r.place; full = full_padding r; text = no_operations n } ∷ plan start (gone + (full_padding r - n)) rs)) is
    ∙ so_far

-- and the paddings stay in order
pub one_behind : (stop past least : ℕ) (r : Relocation) (ps : List Piece) → IsNextAlignment stop r
    → ((more : List Piece) → are_in_order stop past more ≡ true → are_in_order 0 0 (ps ++ more) ≡ true)
    → (more : List Piece) → are_in_order (r.place + full_padding r) (past + (full_padding r - (least - least % 2))) more ≡ true
    → are_in_order 0 0 ((ps ++ record { place = r.place; gone = past; full = full_padding r; left = least - least % 2; detail = tt } ∷ []) ++ more) ≡ true
one_behind stop past least r ps one so_far more h =
    ap (are_in_order 0 0) (append_assoc ps (p ∷ []) more) ∙ so_far (p ∷ more) (and_from (is_next stop past p) (are_in_order (r.place + full_padding r) (past + (full_padding r - (least - least % 2))) more) here h)
  where
    p : Piece
    p = record { place = r.place; gone = past; full = full_padding r; left = least - least % 2; detail = tt }

    here : is_next stop past p ≡ true
    here =
        and_from (nat_le stop r.place) (nat_lt (r.place + full_padding r) (2 ^ 64) && (((least - least % 2) % 2 == 0) && (past == past))) (le-leb stop r.place one.from)
        (and_from (nat_lt (r.place + full_padding r) (2 ^ 64)) (((least - least % 2) % 2 == 0) && (past == past)) (lt-ltb (r.place + full_padding r) (2 ^ 64) (omega (arith, one.low)))
        (and_from ((least - least % 2) % 2 == 0) (past == past) (eq-eqb ((least - least % 2) % 2) 0 (omega arith)) (eq-eqb past past refl)))

-- the alignment before an index is the first of those that are left
pub at_hand : (stop : ℕ) (xs : List DeclaredRelocation) (k at : ℕ) → k + 1 ≡ at → k < length xs → are_alignments stop (backwards (take at xs)) ≡ true
    → are_alignments stop (relocation_of (slice_index_or xs k zeros_relocation) ∷ backwards (take k xs)) ≡ true
at_hand stop xs k at is inside h =
    sym (ap (are_alignments stop) (last_first xs k zeros_relocation inside)) ∙ ap (λ n. are_alignments stop (backwards (take n xs))) is ∙ h

pub plan_at : (start gone : ℕ) (xs : List DeclaredRelocation) (k at : ℕ) → k + 1 ≡ at → k < length xs
    → plan start gone (relocation_of (slice_index_or xs k zeros_relocation) ∷ backwards (take k xs)) ≡ plan start gone (backwards (take at xs))
plan_at start gone xs k at is inside = sym (ap (plan start gone) (last_first xs k zeros_relocation inside)) ∙ ap (λ n. plan start gone (backwards (take n xs))) is
