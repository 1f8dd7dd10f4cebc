use Rattle.std.proofs.Common.{◌++◌, subst, sym, ap, ◌∙◌, append-nil}
use Rattle.rv_map.specs.Views.{map_of}
use Rattle.rv_image.specs.Views.{image_of}
use Rattle.rv_listing_laws.specs.Listing.{IsListing}
use Rattle.rv_disasm.proofs.listed.listing.Goals as goal

pub returns : goal.returns
returns c reader =
    let shows = IsListing reader (image_of c.args.image.now) (map_of c.args.map.now) in
    let text = c.next.new.text.items in
    let remaining = c.in_ok-next.ensures.last reader c.if-branch.false in
    subst shows (ap (λ xs. text ++ xs) remaining ∙ append-nil text)
    (subst shows (sym (c.in_ok-next.ensures.added reader)) (c.loop-text.invariant reader))
