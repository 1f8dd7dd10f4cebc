use Rattle.std.proofs.Common.{◌≡◌, ◌+◌, ◌-◌, ◌%◌, ◌<◌, ◌∷◌, [], ◌++◌, length, map, take, slice_index_or, refl, sym, ap, ◌∙◌, arith, append-nil}
use Rattle.rv_size_laws.specs.Alignment.{aligned}
use Rattle.rv_object_types.specs.Parts.{relocation_of, zeros_relocation}
use Rattle.rv_link_laws.specs.Moves.{alignment_of, full_padding, plan}
use Rattle.rv_relax.specs.Paddings.{are_in_order, move_of}
use Rattle.rv_relax.proofs.SortingLemmas.{backwards}
use Rattle.rv_cut_laws.proofs.AlignmentsLemmas.{next_alignment, other_alignments}
use Rattle.rv_relax.proofs.PlannedLemmas.{at_hand, plan_at, least_of, planned, one_behind}
use Rattle.rv_relax.proofs.paddings.paddings.Goals as goal

pub overflow_cast-full : goal.overflow_cast-full
overflow_cast-full c =
    let xs = c.args.alignments.now in
    let at = c.loop-rest.rest in
    let is : at - 1 + 1 ≡ at = omega (arith, c.loop-rest-test.true) in
    let inside : at - 1 < length xs = omega (arith, c.loop-rest.invariant.0, c.loop-rest-test.true) in
    let r = relocation_of (slice_index_or xs (at - 1) zeros_relocation) in
    let rs = backwards (take (at - 1) xs) in
    let stop = c.loop-rest.invariant.2.0 in
    let all = at_hand stop xs (at - 1) at is inside c.loop-rest.invariant.2.1 in
    let one = next_alignment stop r rs all in
    omega (arith, one.short, c.full_padding-full.ensures)

pub overflow_sub-stands : goal.overflow_sub-stands
overflow_sub-stands c =
    let xs = c.args.alignments.now in
    let at = c.loop-rest.rest in
    let is : at - 1 + 1 ≡ at = omega (arith, c.loop-rest-test.true) in
    let inside : at - 1 < length xs = omega (arith, c.loop-rest.invariant.0, c.loop-rest-test.true) in
    let r = relocation_of (slice_index_or xs (at - 1) zeros_relocation) in
    let rs = backwards (take (at - 1) xs) in
    let stop = c.loop-rest.invariant.2.0 in
    let all = at_hand stop xs (at - 1) at is inside c.loop-rest.invariant.2.1 in
    let one = next_alignment stop r rs all in
    omega (arith, one.from, c.loop-rest.invariant.2.2)

pub overflow_add-gone : goal.overflow_add-gone
overflow_add-gone c =
    let xs = c.args.alignments.now in
    let at = c.loop-rest.rest in
    let is : at - 1 + 1 ≡ at = omega (arith, c.loop-rest-test.true) in
    let inside : at - 1 < length xs = omega (arith, c.loop-rest.invariant.0, c.loop-rest-test.true) in
    let r = relocation_of (slice_index_or xs (at - 1) zeros_relocation) in
    let rs = backwards (take (at - 1) xs) in
    let stop = c.loop-rest.invariant.2.0 in
    let all = at_hand stop xs (at - 1) at is inside c.loop-rest.invariant.2.1 in
    let one = next_alignment stop r rs all in
    omega (arith, one.from, one.low, c.loop-rest.invariant.2.2, c.full_padding-full.ensures, c.from-gone.ensures, c.saturating_sub.ensures)

pub overflow_add-dropped : goal.overflow_add-dropped
overflow_add-dropped c =
    let xs = c.args.alignments.now in
    let at = c.loop-rest.rest in
    let is : at - 1 + 1 ≡ at = omega (arith, c.loop-rest-test.true) in
    let inside : at - 1 < length xs = omega (arith, c.loop-rest.invariant.0, c.loop-rest-test.true) in
    let r = relocation_of (slice_index_or xs (at - 1) zeros_relocation) in
    let rs = backwards (take (at - 1) xs) in
    let stop = c.loop-rest.invariant.2.0 in
    let all = at_hand stop xs (at - 1) at is inside c.loop-rest.invariant.2.1 in
    let one = next_alignment stop r rs all in
    omega (arith, one.from, one.low, c.loop-rest.invariant.2.3, c.full_padding-full.ensures, c.from-dropped.ensures, c.saturating_sub-in-loop-rest.ensures)

pub returns-clause-order : goal.returns-clause-order
returns-clause-order c =
    ap (are_in_order 0 0) (sym (append-nil c.loop-rest.paddings.items)) ∙ c.loop-rest.invariant.2.4 [] refl

pub loop-rest-preserved : goal.loop-rest-preserved
loop-rest-preserved c =
    let xs = c.args.alignments.now in
    let at = c.loop-rest.rest in
    let is : at - 1 + 1 ≡ at = omega (arith, c.loop-rest-test.true) in
    let inside : at - 1 < length xs = omega (arith, c.loop-rest.invariant.0, c.loop-rest-test.true) in
    let r = relocation_of (slice_index_or xs (at - 1) zeros_relocation) in
    let rs = backwards (take (at - 1) xs) in
    let stop = c.loop-rest.invariant.2.0 in
    let all = at_hand stop xs (at - 1) at is inside c.loop-rest.invariant.2.1 in
    let one = next_alignment stop r rs all in
    let gone = c.loop-rest.gone in
    let past = c.loop-rest.dropped in
    let ps = c.loop-rest.paddings.items in
    let least = c.least_padding-least.result in
    let full : c.full_padding-full.result ≡ full_padding r = c.full_padding-full.ensures in
    let above : c.asked_alignment.result ≡ alignment_of r = c.asked_alignment.ensures.value in
    let stands : r.place - gone ≡ 0 + (r.place - gone) = omega arith in
    let least_is : least ≡ least_of 0 gone r =
    c.least_padding-least.ensures.value ∙ ap (λ n. aligned c.asked_alignment.result n - n) stands ∙ ap (λ a. aligned a (0 + (r.place - gone)) - (0 + (r.place - gone))) above in
    let items : c.push.new.self.items ≡ ps ++ record { place = r.place; gone = past; full = full_padding r; left = least - least % 2; detail = tt } ∷ [] =
    c.in_ok-push.ensures.items ∙ ap (λ n. ps ++ record { place = r.place; gone = past; full = n; left = least - least % 2; detail = tt } ∷ []) full in
    let more_gone : c.from-gone.result ≡ full_padding r - least = c.from-gone.ensures ∙ c.saturating_sub.ensures ∙ ap (λ n. n - least) full in
    let more_dropped : c.from-dropped.result ≡ full_padding r - (least - least % 2) = c.from-dropped.ensures ∙ c.saturating_sub-in-loop-rest.ensures ∙ ap (λ n. n - (least - least % 2)) full in (
      omega (arith, c.loop-rest.invariant.0),
      ap (λ l. map move_of l ++ plan 0 (gone + c.from-gone.result) rs) items
          ∙ ap (λ n. map move_of (ps ++ record { place = r.place; gone = past; full = full_padding r; left = least - least % 2; detail = tt } ∷ []) ++ plan 0 (gone + n) rs) more_gone
          ∙ planned 0 gone past least r rs ps (plan 0 0 (backwards xs)) least_is (ap (λ l. map move_of ps ++ l) (plan_at 0 gone xs (at - 1) at is inside) ∙ c.loop-rest.invariant.1),
      (
        r.place + full_padding r,
        other_alignments stop r rs all,
        omega (arith, one.from, c.loop-rest.invariant.2.2),
        omega (arith, one.from, c.loop-rest.invariant.2.3),
        (λ more h. ap (λ l. are_in_order 0 0 (l ++ more)) items
            ∙ one_behind stop past least r ps one c.loop-rest.invariant.2.4 more (sym (ap (λ n. are_in_order (r.place + full_padding r) (past + n) more) more_dropped) ∙ h)),
      ),
    )
