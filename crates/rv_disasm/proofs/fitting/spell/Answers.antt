use Rattle.std.proofs.Common.{◌-◌, ◌∙◌, Some, None, ap, sym, refl}
use Rattle.std.proofs.lemmas.List.{take_rest}
use Rattle.rv_disasm.specs.Fitting as fitting
use Rattle.rv_disasm.proofs.FittingLemmas.{front_room, spell_more, spell_end}
use Rattle.rv_disasm.proofs.fitting.spell.Goals as goal

pub slice_bounds-rest-count : goal.slice_bounds-rest-count
slice_bounds-rest-count c =
    front_room c.loop-remaining.rest.now c.in-Some.field-0-0 c.in-Some.length ((c.in-Some.ensures.exact c.in-Some.field-0-0 c.in-Some.length).0 refl)

pub slice_bounds-rest-start : goal.slice_bounds-rest-start
slice_bounds-rest-start c =
    front_room c.loop-remaining.rest.now c.in-Some.field-0-0 c.in-Some.length ((c.in-Some.ensures.exact c.in-Some.field-0-0 c.in-Some.length).0 refl)

pub loop-remaining-preserved : goal.loop-remaining-preserved
loop-remaining-preserved c reader =
    ap (fitting.spell reader (c.loop-remaining.remaining - 1)) (take_rest c.loop-remaining.rest.now c.in-Some.length)
    ∙ sym (spell_more reader c.loop-remaining.remaining c.loop-remaining.rest.now (Some (c.in-Some.field-0-0, c.in-Some.length)) c.loop-remaining-test.true c.in-Some.ensures.exact)
    ∙ c.loop-remaining.invariant reader

pub returns-in-None : goal.returns-in-None
returns-in-None c reader =
    sym (spell_more reader c.loop-remaining.remaining c.loop-remaining.rest.now None c.loop-remaining-test.true c.in-None.ensures.exact) ∙ c.loop-remaining.invariant reader

pub returns : goal.returns
returns c reader = c.is_empty.ensures ∙ sym (spell_end reader c.loop-remaining.remaining c.loop-remaining.rest.now c.loop-remaining-test.false) ∙ c.loop-remaining.invariant reader
