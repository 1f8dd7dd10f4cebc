use Rattle.std.proofs.Common.{◌++◌, ap, ◌∙◌}
use Rattle.rv_image.specs.Views.{image_of}
use Rattle.rv_disasm.proofs.RawLemmas.{alone_in, heading, listed, no_after, no_before, shown}
use Rattle.rv_disasm.proofs.raw.raw_listing.Goals as goal

pub returns-in_default-cut-clause-none : goal.returns-in_default-cut-clause-none
returns-in_default-cut-clause-none c text r =
    c.in_default-cut.ensures.none _ _ (shown (image_of c.args.image.now) text _ (alone_in _ _ _ c.deref.ensures.value c.in-Some.ensures.found) r).cut

pub returns-then-not-branch-clause-none : goal.returns-then-not-branch-clause-none
returns-then-not-branch-clause-none c =
    no_before (image_of c.args.image.now) _ _ _ (alone_in _ _ _ c.deref.ensures.value c.in-Some.ensures.found)
    c.in-Some-cut.ensures.found (c.in_ok-put_codes.ensures.none c.if-not-branch.true)

pub returns-then-not-branch-2-clause-none : goal.returns-then-not-branch-2-clause-none
returns-then-not-branch-2-clause-none c =
    no_after (image_of c.args.image.now) _ _ _ (alone_in _ _ _ c.deref.ensures.value c.in-Some.ensures.found)
    c.in-Some-cut.ensures.found (c.in_ok-put_codes-2.ensures.none c.if-not-branch-2.true)

pub returns-clause-found : goal.returns-clause-found
returns-clause-found c =
    listed (image_of c.args.image.now) _ _ _ c.extend_from_slice.new.self.items c.put_codes.new.text.items c.extend_from_slice-2.new.self.items c.put_codes-2.new.text.items
    (alone_in _ _ _ c.deref.ensures.value c.in-Some.ensures.found) c.in-Some-cut.ensures.found
    (c.in_ok-extend_from_slice.ensures.items ∙ ap (λ t. t ++ heading) c.new-text.ensures.items)
    (c.in_ok-put_codes.ensures.all c.if-not-branch.false)
    c.in_ok-extend_from_slice-2.ensures.items
    (c.in_ok-put_codes-2.ensures.all c.if-not-branch-2.false)
