-- The depth of the stack, with one event more.

use Rattle.std.proofs.Common.{◌≡◌, ℕ, ◌-◌, ◌^◌, min, max, Bool, true, false, not, ◌&&◌, List, [], ◌∷◌, ◌++◌, fold, filter, slice_index, if◌then◌else◌, refl, sym, ap, ◌∙◌, append_assoc}
use Rattle.std.proofs.lemmas.List.{append-nil}
use Rattle.std.proofs.lemmas.List.Sums.{fold-append}
use Rattle.std.proofs.lemmas.List.Elements.{filter-append}
use Rattle.rv_isa_laws.specs.Platform.{stack_end}
use Rattle.rv_event_laws.specs.Event.{Event}
use Rattle.rv_event_laws.specs.Changes.{with_set}
use Rattle.rv_counts.specs.declared.depth.Depth.{Depth}
use Rattle.rv_counts.specs.Counted.{start_registers, told_registers}
use Rattle.rv_counts.specs.Depth.{sps_from, sps, is_begun, is_in_stack, is_own, HasDepth, with_sp}

abbrev pub if_one : Bool → ℕ → List ℕ
if_one holds sp = if holds then sp ∷ [] else []

-- the registers after an event more
abbrev pub told_after : List ℕ → List Event → Event → List ℕ
told_after registers past e = with_set e.set (fold (λ registers e. with_set e.set registers) registers past)

sps_more : (registers : List ℕ) (past : List Event) (e : Event) → sps_from registers (past ++ (e ∷ [])) ≡ sps_from registers past ++ if_one (not (is_begun e)) (slice_index (told_after registers past e) 2)
sps_more registers [] e = append-nil (if_one (not (is_begun e)) (slice_index (with_set e.set registers) 2))
sps_more registers (x ∷ past) e =
    let here = if_one (not (is_begun x)) (slice_index (with_set x.set registers) 2) in
    let after = with_set x.set registers in
    ap (λ (l : List ℕ). here ++ l) (sps_more after past e) ∙ sym (append_assoc here (sps_from after past) (if_one (not (is_begun e)) (slice_index (told_after after past e) 2)))

one : (f : ℕ → ℕ → ℕ) (a : ℕ) (holds : Bool) (sp : ℕ) → fold f a (if_one holds sp) ≡ (if holds then f a sp else a)
one f a true sp = refl
one f a false sp = refl

last : (f : ℕ → ℕ → ℕ) (a : ℕ) (p : ℕ → Bool) (holds : Bool) (sp : ℕ) → fold f a (filter p (if_one holds sp)) ≡ (if holds && p sp then f a sp else a)
last f a p true sp = one f a (p sp) sp
last f a p false sp = refl

kept_more : (f : ℕ → ℕ → ℕ) (from : ℕ) (p : ℕ → Bool) (xs : List ℕ) (holds : Bool) (sp : ℕ) → fold f from (filter p (xs ++ if_one holds sp)) ≡ (if holds && p sp then f (fold f from (filter p xs)) sp else fold f from (filter p xs))
kept_more f from p xs holds sp =
    ap (λ (l : List ℕ). fold f from l) (filter-append p xs (if_one holds sp)) ∙ fold-append f from (filter p xs) (filter p (if_one holds sp)) ∙ last f (fold f from (filter p xs)) p holds sp

-- what is kept of the values of sp that pass, one event after the other
more_kept : (f : ℕ → ℕ → ℕ) (from : ℕ) (p : ℕ → Bool) (past : List Event) (e : Event) (now : ℕ) → now ≡ fold f from (filter p (sps past)) → (if not (is_begun e) && p (slice_index (told_after start_registers past e) 2) then f now (slice_index (told_after start_registers past e) 2) else now) ≡ fold f from (filter p (sps (past ++ (e ∷ []))))
more_kept f from p past e now so_far =
    let sp = slice_index (told_after start_registers past e) 2 in
    ap (λ (n : ℕ). if not (is_begun e) && p sp then f n sp else n) so_far ∙ sym (ap (λ (l : List ℕ). fold f from (filter p l)) (sps_more start_registers past e) ∙ kept_more f from p (sps past) (not (is_begun e)) sp)

pub depth_more : (d : Depth) (past : List Event) (e : Event) → HasDepth d past → HasDepth (with_sp d (is_begun e) (slice_index (with_set e.set (told_registers past)) 2)) (past ++ (e ∷ []))
depth_more d past e h =
    record {
      lowest = more_kept min stack_end is_in_stack past e d.lowest h.lowest;
      lowest_own = more_kept min (2 ^ 64 - 1) (is_own d.first d.last) past e d.lowest_own h.lowest_own;
      highest_own = more_kept max 0 (is_own d.first d.last) past e d.highest_own h.highest_own;
    }
