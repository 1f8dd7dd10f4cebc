use Rattle.std.proofs.Common.{◌<◌, ◌≤◌, ◌+◌, [], None, false, length, get_or, refl, sym, ap, ◌∙◌, subst, rules}
use Rattle.std.specs.Prelude.{IsOk, option_map, slice_index_or}
use Rattle.std.specs.Vec.{vec_len}
use Rattle.std.proofs.lemmas.List.{length-map, take_all}
use Rattle.rv_expression.specs.Nodes.{symbol_of}
use Rattle.rv_unit.specs.Unit.{definition_of}
use Rattle.rv_symbols.specs.SymbolUse.{use_of, uses_of}
use Rattle.rv_symbols.specs.Found.{any_means}
use Rattle.rv_symbols.proofs.UsingLemmas.{use_at, found_at, mark_more}
use Rattle.rv_symbols.proofs.uses.marks.Goals as goal

pub loop-i-init : goal.loop-i-init
loop-i-init c = record {
  len = search rules;
  marks = λ t defs k below.
      let empty : vec_len c.new-meant.result ≤ k = search rules in
      let ok : IsOk c.resize.result = search rules in
      c.resize.ensures.by_index.1 k false ok empty below;
}

pub loop-i-preserved : goal.loop-i-preserved
loop-i-preserved c =
    let i = c.loop-i.i in
    let us = c.args.uses.now in
    let ds = c.args.definitions.now in
    let d = c.index-uses-i.result in
    let inside : i < length us = search rules in
    let within : i < length ds = search rules in
    record {
      len = c.mark.ensures.len ∙ c.loop-i.invariant.len;
      marks = λ t defs k below.
          mark_more t (uses_of us) i (use_of (get_or us i d)) (k + 1) (symbol_of (get_or us i d).symbol) (option_map definition_of (get_or ds i None))
          (slice_index_or c.loop-i.meant.items k false) (slice_index_or c.mark.new.meant.items k false)
          (use_at us i d inside) refl (found_at t us ds defs i d None inside within)
          (c.mark.ensures.marks k (subst (λ n. k < n) (sym c.loop-i.invariant.len) below)) (c.loop-i.invariant.marks t defs k below);
    }

pub returns-clause-marks : goal.returns-clause-marks
returns-clause-marks c = λ t defs k below.
    let i = c.loop-i.i in
    let us = c.args.uses.now in
    let past : length us ≤ i = c.loop-i-test.false in
    c.loop-i.invariant.marks t defs k below ∙ ap (any_means t (k + 1)) (take_all i (uses_of us) (subst (λ n. n ≤ i) (sym (length-map us use_of)) past))
