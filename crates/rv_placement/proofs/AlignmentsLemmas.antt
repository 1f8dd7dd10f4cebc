-- The multiple at which what is left of a section begins, and the greatest of sections.

use Rattle.std.proofs.Common.{◌≡◌, ◌<◌, ℕ, Bool, true, false, List, [], ◌∷◌, map, max, refl, sym, ap, ◌∙◌, arith}
use Rattle.std.specs.Prelude.{◌&&◌, nat_lt, if◌then◌else◌}
use Rattle.rv_object_laws.specs.Object.{Relocation, Section, Object}
use Rattle.rv_object_types.specs.Alignments.{asked, raised_by}
use Rattle.rv_object_types.proofs.AlignmentsLemmas.{begins_text, begins_other}
use Rattle.rv_link_laws.specs.Moves.{Move, alignment_of, alignments_of, full_padding}
use Rattle.rv_link_laws.specs.Inputs.{begins_at, goes_to_text}
use Rattle.rv_link_laws.proofs.InputsLemmas.{raised_most}
use Rattle.rv_cut_laws.specs.Cutting.{cut_relocation, cut_section}
use Rattle.rv_cut_laws.proofs.PaddingsLemmas.{align_stays}
use Rattle.rv_placement.specs.Walk.{greatest_in, greatest_of}

-- cuts make no alignment and change no padding, so that what is left of a section begins at the same
-- multiple
asked_left : (ms : List Move) (r : Relocation) → asked (cut_relocation ms r) ≡ asked r
asked_left ms r = ap (λ b. if b && nat_lt 0 (full_padding r) then alignment_of r else 0) (align_stays ms r)

raised_left : (ms : List Move) (rs : List Relocation) (a : ℕ) → raised_by (map (cut_relocation ms) rs) a ≡ raised_by rs a
raised_left ms [] a = refl
raised_left ms (r ∷ rs) a = ap (λ n. max n (raised_by (map (cut_relocation ms) rs) a)) (asked_left ms r) ∙ ap (max (asked r)) (raised_left ms rs a)

pub begins_left : (ms : List Move) (s : Section) → begins_at (cut_section ms s) ≡ begins_at s
begins_left ms s = go (goes_to_text s) refl
  where
    go : (b : Bool) → goes_to_text s ≡ b → begins_at (cut_section ms s) ≡ begins_at s
    go true e = begins_text (cut_section ms s) e ∙ raised_left ms s.relocations (max s.alignment 2) ∙ sym (begins_text s e)
    go false e = begins_other (cut_section ms s) e ∙ sym (begins_other s e)

pub begins_some : (s : Section) → 0 < begins_at s
begins_some s =
    let h = raised_most (alignments_of s) (max (if goes_to_text s then 2 else 1) s.alignment) in
    let one = go (goes_to_text s) in omega arith
  where
    go : (b : Bool) → 0 < max (if b then 2 else 1) s.alignment
    go true = omega arith
    go false = omega arith

-- ---- the greatest

greatest_some : (to : Section → Bool) (ss : List Section) → 0 < greatest_in to ss
greatest_some to [] = omega arith
greatest_some to (s ∷ ss) = let h = greatest_some to ss in omega arith

pub greatest_start : (to : Section → Bool) (ss : List Section) → max 1 (greatest_in to ss) ≡ greatest_in to ss
greatest_start to ss = let h = greatest_some to ss in omega arith

pub greatest_some_of : (to : Section → Bool) (os : List Object) → 0 < greatest_of to os
greatest_some_of to [] = omega arith
greatest_some_of to (o ∷ os) = let h = greatest_some_of to os in omega arith

pub greatest_start_of : (to : Section → Bool) (os : List Object) → max 1 (greatest_of to os) ≡ greatest_of to os
greatest_start_of to os = let h = greatest_some_of to os in omega arith
