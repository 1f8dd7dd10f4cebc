use Rattle.std.proofs.Common.{◌≡◌, ◌<◌, ◌+◌, ◌++◌, ◌∙◌, [], ◌∷◌, ℕ, List, length, map, drop, refl, sym, ap, subst, append-nil, rules}
use Rattle.std.proofs.lemmas.List.{drop_all}
use Rattle.rv_list_laws.proofs.TakeDropLemmas.{drop_read_or}
use Rattle.rv_object_laws.specs.Object.{Symbol}
use Rattle.rv_object_types.specs.Parts.{symbol_of}
use Rattle.rv_object_file_laws.specs.Written.{unseen, strings_of}
use Rattle.rv_object_writer.specs.Strings.{IsStringTable, with_string}
use Rattle.rv_object_writer.proofs.NamingLemmas.{name_more}
use Rattle.rv_object_writer.proofs.names.symbol_names.Goals as goal

pub loop-symbol-init : goal.loop-symbol-init
loop-symbol-init c = ([] ∷ [], c.in_ok-names.ensures, refl)

pub loop-symbol-preserved : goal.loop-symbol-preserved
loop-symbol-preserved c =
    let i = c.loop-symbol.symbol-index in
    let xs = c.args.symbols.now in
    let x = c.symbol-item.result in
    let ss = c.loop-symbol.invariant.0 in
    let name = x.name.now in
    let inside : i < length xs = search rules in
    let rest : List (List ℕ) = map (λ (s : Symbol). s.name) (map symbol_of (drop (i + 1) xs)) in (
      with_string ss name,
      c.in_ok-put.ensures ss c.loop-symbol.invariant.1,
      (name_more ss name rest
          ∙ ap (λ l. ss ++ unseen ss (map (λ (s : Symbol). s.name) (map symbol_of l))) (sym (drop_read_or xs i x x inside c.symbol-item.is))
          ∙ c.loop-symbol.invariant.2),
    )

pub returns : goal.returns
returns c =
    let i = c.loop-symbol.symbol-index in
    let xs = c.args.symbols.now in
    let ss = c.loop-symbol.invariant.0 in
    let all : ss ≡ strings_of (map (λ (s : Symbol). s.name) (map symbol_of xs)) =
    sym (append-nil ss) ∙ ap (λ l. ss ++ unseen ss (map (λ (s : Symbol). s.name) (map symbol_of l))) (sym (drop_all i xs c.loop-symbol-test.false))
    ∙ c.loop-symbol.invariant.2 in
    subst (λ (l : List (List ℕ)). IsStringTable l c.loop-symbol.names) all c.loop-symbol.invariant.1
