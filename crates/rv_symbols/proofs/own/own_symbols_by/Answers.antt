use Rattle.std.proofs.Common.{◌≡◌, ℕ, ◌<◌, ◌≤◌, ◌+◌, false, [], ◌++◌, Some, length, map, take, drop, get_or, refl, sym, ap, ◌∙◌, subst, append-nil, append_assoc, arith}
use Rattle.std.specs.Prelude.{flat_map, slice_get}
use Rattle.std.specs.HashSet.{contains}
use Rattle.rv_object_types.specs.Parts.{symbol_of}
use Rattle.rv_statement.specs.View.{statement_of}
use Rattle.rv_statement_laws.specs.Statement.{Statement}
use Rattle.rv_statement.specs.Statements.{statements_of}
use Rattle.rv_unit.specs.Unit.{said}
use Rattle.rv_assemble_laws.specs.ShownNames.{said_names, are_shown}
use Rattle.std.proofs.lemmas.List.{map-append}
use Rattle.std.proofs.lemmas.Option.{slice_get_within}
use Rattle.rv_list_laws.proofs.TestsLemmas.{get_all}
use Rattle.rv_list_laws.proofs.ElementsLemmas.{get_some}
use Rattle.rv_list_laws.proofs.TakeDropLemmas.{drop_next, take_next}
use Rattle.rv_assemble_laws.specs.LaidStatements.{LaidStatement}
use Rattle.rv_assemble_laws.specs.Symbols.{references, is_meant, local_symbols, exports_of}
use Rattle.rv_symbols.specs.Source.{tables_of, place_in}
use Rattle.rv_symbols.specs.Found.{same_place, is_seen, any_means}
use Rattle.rv_symbols.proofs.StandsLemmas.{ordinal_is, kind_at, laid_inside, laid_past, count_is, low_more}
use Rattle.rv_symbols.proofs.NamingLemmas.{locals_more, seen_more, two_more}
use Rattle.rv_symbols.proofs.own.own_symbols_by.Goals as goal

next_few : (now new i : ℕ) → now ≤ i → new ≤ now + 1 → new ≤ i + 1
next_few now new i h k = omega (arith, h, k)

pub put_both-requires-clause-shown : goal.put_both-requires-clause-shown
put_both-requires-clause-shown c =
    let i = c.loop-i.i in
    let ss = said c.args.source.now.unit.now in
    let y = statement_of c.read.result.now in
    let at : slice_get ss i ≡ Some y = ap (λ l. slice_get (statements_of l) i) (sym c.statements-statements.ensures) ∙ c.read.ensures in
    get_all (λ (s : Statement). are_shown (said_names s.kind)) ss i y at c.requires.names

pub loop-i-preserved : goal.loop-i-preserved
loop-i-preserved c =
    let i = c.loop-i.i in
    let x = c.args.source.now in
    let t = tables_of x in
    let ss = said x.unit.now in
    let meant = c.args.meant.now in
    let y = statement_of c.read.result.now in
    let at : slice_get ss i ≡ Some y = ap (λ l. slice_get (statements_of l) i) (sym c.statements-statements.ensures) ∙ c.read.ensures in
    let inside : i < length ss = slice_get_within ss i y at in
    let within : i < length meant = subst (λ n. i < n) (sym c.requires.marks) inside in
    record {
      few = two_more (length c.loop-i.symbols.items) (length c.put_both.new.symbols.items) i c.loop-i.invariant.few c.in_ok-put_both.ensures.few;
      few_exported = next_few (length c.loop-i.exported.items) (length c.put_both.new.exported.items) i c.loop-i.invariant.few_exported c.in_ok-put_both.ensures.few_exported;
      exported = λ laid h.
          let found = get_some laid i (laid_inside x laid h i inside) in
          let s : LaidStatement = found.0 in
          let old = map symbol_of c.loop-i.exported.items in
          ap (λ l. l ++ flat_map (exports_of t laid) (drop (i + 1) laid)) (c.in_ok-put_both.ensures.exported laid s h found.1 (kind_at x laid h i s found.1 y at))
          ∙ append_assoc old (exports_of t laid s) (flat_map (exports_of t laid) (drop (i + 1) laid))
          ∙ ap (λ l. old ++ flat_map (exports_of t laid) l) (sym (drop_next laid i s found.1))
          ∙ c.loop-i.invariant.exported laid h;
      symbols = λ laid h marks.
          let rs = references t laid in
          let found = get_some laid i (laid_inside x laid h i inside) in
          let s : LaidStatement = found.0 in
          let m : get_or meant i false ≡ is_meant t rs s = marks i within ∙ ap (λ n. any_means t n rs) (sym (ordinal_is x laid h i s found.1)) in
          ap (λ l. map symbol_of c.put_both.new.symbols.items ++ local_symbols t laid l (drop (i + 1) laid)) (take_next laid i s found.1)
          ∙ locals_more t laid (take i laid) (drop (i + 1) laid) s rs (get_or meant i false) (contains same_place c.loop-i.seen (place_in s)) (map symbol_of c.loop-i.symbols.items) _ _
          m (c.loop-i.invariant.seen laid h marks (place_in s)) refl (c.in_ok-put_both.ensures.symbols laid s h found.1 (kind_at x laid h i s found.1 y at))
          (ap (λ l. map symbol_of c.loop-i.symbols.items ++ local_symbols t laid (take i laid) l) (sym (drop_next laid i s found.1)) ∙ c.loop-i.invariant.symbols laid h marks);
      seen = λ laid h marks q.
          let rs = references t laid in
          let found = get_some laid i (laid_inside x laid h i inside) in
          let s : LaidStatement = found.0 in
          let m : get_or meant i false ≡ is_meant t rs s = marks i within ∙ ap (λ n. any_means t n rs) (sym (ordinal_is x laid h i s found.1)) in
          seen_more t laid rs (take i laid) s (get_or meant i false) (contains same_place c.loop-i.seen q) (contains same_place c.put_both.new.seen q) q m (c.loop-i.invariant.seen laid h marks q)
          (c.in_ok-put_both.ensures.seen laid s h found.1 q)
          ∙ ap (λ l. is_seen t rs l q) (sym (take_next laid i s found.1));
      low = λ laid h. low_more laid i (c.loop-i.invariant.low laid h) (λ s at. c.in_ok-put_both.ensures.low laid s h at);
    }

pub returns-clause-symbols : goal.returns-clause-symbols
returns-clause-symbols c = λ laid h marks.
    let i = c.loop-i.i in
    let x = c.args.source.now in
    let t = tables_of x in
    let past : length (said x.unit.now) ≤ i = subst (λ n. n ≤ i) (c.len-i-end.ensures ∙ ap (λ l. length (statements_of l)) c.statements-statements.ensures) c.loop-i-test.false in
    let left = laid_past x laid h i past in
    let locals = map symbol_of c.loop-i.symbols.items in
    let exported = map symbol_of c.loop-i.exported.items in
    ap (map symbol_of) c.in_ok-append.ensures.items
    ∙ map-append symbol_of c.loop-i.symbols.items c.loop-i.exported.items
    ∙ ap (λ l. l ++ exported)
    (sym (append-nil locals) ∙ ap (λ l. locals ++ local_symbols t laid (take i laid) l) (sym left) ∙ c.loop-i.invariant.symbols laid h marks)
    ∙ ap (λ l. local_symbols t laid [] laid ++ l)
    (sym (append-nil exported) ∙ ap (λ l. exported ++ flat_map (exports_of t laid) l) (sym left) ∙ c.loop-i.invariant.exported laid h)

pub returns-clause-low : goal.returns-clause-low
returns-clause-low c = λ laid h j s at.
    let i = c.loop-i.i in
    let x = c.args.source.now in
    let past : length (said x.unit.now) ≤ i = subst (λ n. n ≤ i) (c.len-i-end.ensures ∙ ap (λ l. length (statements_of l)) c.statements-statements.ensures) c.loop-i-test.false in
    let count = count_is x laid h in
    let inside = slice_get_within laid j s at in
    c.loop-i.invariant.low laid h j s (omega (arith, past, count, inside)) at
