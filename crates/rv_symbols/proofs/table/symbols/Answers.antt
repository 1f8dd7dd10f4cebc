use Rattle.rv_symbols.proofs.OrderedLemmas.{rises_from}
use Rattle.rv_symbols.proofs.AllLemmas.{numbered}
use Rattle.rv_symbols.proofs.table.symbols.Goals as goal
use Rattle.std.proofs.Common.{◌≡◌, ℕ, List, [], ◌++◌, length, map, sym, ap, ◌∙◌, subst, arith, append_assoc}
use Rattle.std.specs.Prelude.{option_map}
use Rattle.rv_statement.specs.View.{now_of}
use Rattle.rv_unit_laws.specs.Tables.{Tables, at_start, tables}
use Rattle.rv_unit.specs.Unit.{said, definition_of, IsFilled}
use Rattle.rv_unit.specs.Items.{offsets_of}
use Rattle.rv_source_laws.specs.Located.{located_from}
use Rattle.rv_object_laws.specs.declared.symbol.Definition.TheVariants.{Undefined}
use Rattle.rv_object_laws.specs.Object.{Symbol}
use Rattle.rv_object_types.specs.Parts.{symbol_of}
use Rattle.rv_assemble_laws.specs.Symbols.{SymbolUse, references, local_symbols, exports, shared_symbol, symbols_of}
use Rattle.rv_symbols.specs.Settings.{AreFirsts}
use Rattle.std.specs.List.{AllByRecursion}
use Rattle.rv_assemble_laws.specs.IsObjectOf.{IsNumbered}
use Rattle.rv_assemble_laws.specs.ShownNames.{AreShown}
use Rattle.rv_symbols.specs.SymbolUse.{uses_of, AreMeant}
use Rattle.rv_symbols.specs.Source.{tables_of, IsSource}
use Rattle.rv_symbols.specs.Numbers.{own_symbols, missing_names, number_by, numbering_in}
use Rattle.rv_symbols.specs.Found.{definition_in, Rises, AreMarks}

pub numbers-requires-clause-few : goal.numbers-requires-clause-few
numbers-requires-clause-few c =
    let marked : length c.as_slice-2.result.now ≡ length c.args.items.now = ap length c.as_slice-2.ensures.value ∙ c.in_ok-meant.ensures.len in
    let stand : length c.in_ok-source.source.items.now ≡ length c.args.items.now = ap length c.in_ok-source.ensures.items in
    let own = ap length c.as_slice-4.ensures.value in
    let defined = c.in_ok-symbols.ensures.few in
    let missing = c.in_ok-missing.ensures.few in
    let few = c.requires.few in
    omega (arith, marked, stand, own, defined, missing, few)

pub returns : goal.returns
returns c = λ laid w.
    let u = c.args.unit.now in
    let ss = said u in
    let t = tables ss in
    let rs = uses_of c.args.uses.now in
    let x = c.in_ok-source.source in
    let unit = c.in_ok-source.ensures.unit in
    let h : IsSource x laid = record {
      filled = subst IsFilled (sym unit) c.args.unit.now.filled;
      firsts = subst (λ v. AreFirsts x.firsts.ordinals (tables (said v)).assignments) (sym unit) (c.in_ok-source.ensures.firsts c.args.unit.now.filled);
      located = w.located ∙ ap (λ v. located_from 1 1 (at_start (said v)) (said v)) (sym unit);
      at = w.at ∙ ap offsets_of (sym c.in_ok-source.ensures.items);
    } in
    let same : tables_of x ≡ t = ap (λ v. tables (said v)) unit in
    let rises : Rises 1 (length ss) rs = subst (Rises 1 (length ss)) w.named (rises_from t 1 (length ss) (at_start ss) ss laid w.located (omega arith)) in
    let defs : map (option_map definition_of) c.in_ok-definitions.definitions.items ≡ map (definition_in t) rs = c.in_ok-definitions.ensures.found c.args.unit.now.filled rises in
    let meant = c.in_ok-meant.meant.items in
    let marks : AreMarks t rs meant (length c.args.items.now) = c.in_ok-meant.ensures.marks t (ap (map (option_map definition_of)) c.as_slice.ensures.value ∙ defs) in
    let marked : AreMarks t (references t laid) meant (length meant) =
    subst (λ n. AreMarks t (references t laid) meant n) (sym c.in_ok-meant.ensures.len) (subst (λ l. AreMarks t l meant (length c.args.items.now)) (sym w.named) marks) in
    let those : AreMarks (tables_of x) (references (tables_of x) laid) c.as_slice-2.result.now (length c.as_slice-2.result.now) =
    subst (λ (v : Tables). AreMarks v (references v laid) c.as_slice-2.result.now (length c.as_slice-2.result.now)) (sym same)
    (subst (λ l. AreMarks t (references t laid) l (length l)) (sym c.as_slice-2.ensures.value) marked) in
    let own : map symbol_of c.in_ok-symbols.symbols.items ≡ own_symbols t laid = c.in_ok-symbols.ensures.symbols laid h those ∙ ap (λ (v : Tables). own_symbols v laid) same in
    let names : map now_of c.in_ok-missing.missing.keys ≡ missing_names t rs = c.in_ok-missing.ensures.names t (ap (map (option_map definition_of)) c.as_slice-3.ensures.value ∙ defs) in
    let undefined : Tables → List (List ℕ) → List Symbol = λ v ns. map (λ name. shared_symbol v name Undefined) ns in
    record {
      symbols =
          c.in_ok-put_undefined.ensures laid h
          ∙ ap (λ (v : Tables). map symbol_of c.in_ok-symbols.symbols.items ++ undefined v (map now_of c.as_slice-6.result.now)) same
          ∙ ap (λ l. l ++ undefined t (map now_of c.as_slice-6.result.now)) own
          ∙ ap (λ l. own_symbols t laid ++ undefined t l) (ap (map now_of) c.as_slice-6.ensures.keys ∙ names ∙ ap (missing_names t) (sym w.named))
          ∙ append_assoc (local_symbols t laid [] laid) (exports t laid) (undefined t (missing_names t (references t laid)));
      number = numbering_in t laid;
      numbers =
          sym (c.in_ok-numbers.ensures laid t h (ap (map (option_map definition_of)) c.as_slice-5.ensures.value ∙ defs)
          ∙ ap (λ l. map (λ (r : SymbolUse). number_by l (map now_of c.in_ok-missing.missing.keys) laid r.symbol (definition_in t r)) rs) (ap (map symbol_of) c.as_slice-4.ensures.value ∙ own)
          ∙ ap (λ l. map (λ (r : SymbolUse). number_by (own_symbols t laid) l laid r.symbol (definition_in t r)) rs) (names ∙ ap (missing_names t) (sym w.named)));
      numbered =
          subst (λ l. AllByRecursion (IsNumbered t laid (numbering_in t laid) (symbols_of t laid)) l) w.named
          (numbered ss laid w.located (subst (AreMeant t) (sym w.named) c.requires.meant) c.requires.good c.requires.names (subst AreShown (sym w.named) c.requires.shown) (c.in_ok-symbols.ensures.low laid h));
    }
