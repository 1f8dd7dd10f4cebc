-- The names of an object's symbols weigh no more than the source's statements and what they say.

use Rattle.std.proofs.Common.{◌≡◌, ℕ, ◌+◌, ◌*◌, ◌≤◌, Bool, true, false, List, [], ◌∷◌, ◌++◌, flat_map, map, length, Option, Some, None, refl, ap, arith}
use Rattle.std.specs.Prelude.{not, filter, if◌then◌else◌}
use Rattle.rv_map_laws.specs.Globals.{is_one_of}
use Rattle.rv_expression_laws.specs.Expression.{Primary, Symbol as Named, Literal, Here, Reference}
use Rattle.rv_statement_laws.specs.Statement.{StatementKind, Label, Directs, Sets}
use Rattle.rv_unit_laws.specs.Bindings.{is_shared}
use Rattle.rv_unit_laws.specs.Tables.{Tables, Definition, definition}
use Rattle.rv_source_laws.specs.Exports.{sets_first, defined_name}
use Rattle.rv_object_laws.specs.declared.symbol.Definition.{Definition as Defined}
use Rattle.rv_object_laws.specs.declared.symbol.Definition.TheVariants.{Undefined, InSection}
use Rattle.rv_object_laws.specs.Object.{Symbol}
use Rattle.rv_assemble_laws.specs.ShownNames.{said_names}
use Rattle.rv_assemble_laws.specs.LaidStatements.{LaidStatement}
use Rattle.rv_assemble_laws.specs.Symbols.{SymbolUse, statement_definition, local_symbol, shared_symbol, references, unnamed_symbols, is_absolute, named_symbols, local_symbols, exports_of, exports, missing_name, distinct_from, undefined_symbols, symbols_of}
use Rattle.rv_unique_theorems.proofs.LoneSymbolsLemmas.{names_of}
use Rattle.rv_assemble_laws.specs.Small.{weight}
use Rattle.rv_assemble_laws.proofs.WeightsLemmas.{weight_append}
use Rattle.rv_assemble_laws.proofs.ValueWeightsLemmas.{symbol_heft}
use Rattle.rv_assemble_laws.proofs.UseWeightsLemmas.{use_heft, statement_said, references_light}

-- ---- names and symbols

pub weight_kept : (keep : List ℕ → Bool) (ns : List (List ℕ)) → weight (filter keep ns) ≤ weight ns
weight_kept keep [] = omega arith
weight_kept keep (n ∷ ns) = go (keep n) (weight_kept keep ns)
  where
    go : (b : Bool) → weight (filter keep ns) ≤ weight ns → weight (if b then n ∷ filter keep ns else filter keep ns) ≤ 1 + (length n + weight ns)
    go true h = omega (arith, h)
    go false h = omega (arith, h)

abbrev pub symbol_weight : List Symbol → ℕ
symbol_weight [] = 0
symbol_weight (x ∷ xs) = 1 + (length x.name + symbol_weight xs)

symbols_append : (xs ys : List Symbol) → symbol_weight (xs ++ ys) ≡ symbol_weight xs + symbol_weight ys
symbols_append [] ys = let n = symbol_weight ys in let e : n ≡ 0 + n = omega arith in e
symbols_append (x ∷ xs) ys = let rest = symbols_append xs ys in omega (arith, rest)

symbols_kept : (keep : Symbol → Bool) (xs : List Symbol) → symbol_weight (filter keep xs) ≤ symbol_weight xs
symbols_kept keep [] = omega arith
symbols_kept keep (x ∷ xs) = go (keep x) (symbols_kept keep xs)
  where
    go : (b : Bool) → symbol_weight (filter keep xs) ≤ symbol_weight xs → symbol_weight (if b then x ∷ filter keep xs else filter keep xs) ≤ 1 + (length x.name + symbol_weight xs)
    go true h = omega (arith, h)
    go false h = omega (arith, h)

locals_of : (d : Defined) (ns : List (List ℕ)) → symbol_weight (map (λ n. local_symbol n d) ns) ≡ weight ns
locals_of d [] = refl
locals_of d (n ∷ ns) = ap (λ w. 1 + (length n + w)) (locals_of d ns)

globals_of : (t : Tables) (d : Defined) (ns : List (List ℕ)) → symbol_weight (map (λ n. shared_symbol t n d) ns) ≡ weight ns
globals_of t d [] = refl
globals_of t d (n ∷ ns) = ap (λ w. 1 + (length n + w)) (globals_of t d ns)

pub symbols_names : (xs : List Symbol) → weight (map (λ s. s.name) xs) ≡ symbol_weight xs
symbols_names [] = refl
symbols_names (x ∷ xs) = ap (λ w. 1 + (length x.name + w)) (symbols_names xs)

pub symbols_count : (xs : List Symbol) → length xs ≤ symbol_weight xs
symbols_count [] = omega arith
symbols_count (x ∷ xs) = let rest = symbols_count xs in omega (arith, rest)

-- ---- what a statement defines

if_light : (b : Bool) (n : List ℕ) (m : ℕ) → 1 + length n ≤ m → weight (if b then n ∷ [] else []) ≤ m
if_light true n m h = omega (arith, h)
if_light false n m h = omega arith

defined_light : (t : Tables) (o : ℕ) (kind : StatementKind) → weight (defined_name t o kind) ≤ weight (said_names kind)
defined_light t o (Label n) = omega arith
defined_light t o (Directs (Sets n e)) = if_light (sets_first t.assignments o n) n (weight (said_names (Directs (Sets n e)))) (omega arith)
defined_light t o kind = omega arith

module _ (t : Tables) (laid : List LaidStatement) where
  unnamed_light : (before : List LaidStatement) (s : LaidStatement) → symbol_weight (unnamed_symbols t (references t laid) before s) ≤ 1
  unnamed_light before s = go _
    where
      go : (b : Bool) → symbol_weight (if b then local_symbol [] (InSection s.located.section s.offset) ∷ [] else []) ≤ 1
      go true = omega arith
      go false = omega arith

  named_light : (s : LaidStatement) → symbol_weight (named_symbols t laid s) ≤ weight (said_names s.located.kind)
  named_light s =
      let d = statement_definition t laid s s.located.kind in
      let mine = filter (λ n. not (is_shared (t.bindings n))) (names_of t s) in
      let a = symbols_kept (λ x. not (is_absolute x)) (map (λ n. local_symbol n d) mine) in
      let b = locals_of d mine in
      let c = weight_kept (λ n. not (is_shared (t.bindings n))) (names_of t s) in
      let e = defined_light t s.located.ordinal s.located.kind in
      omega (arith, a, b, c, e)

  exported_light : (s : LaidStatement) → symbol_weight (exports_of t laid s) ≤ weight (said_names s.located.kind)
  exported_light s =
      let d = statement_definition t laid s s.located.kind in
      let b = globals_of t d (filter (λ n. is_shared (t.bindings n)) (names_of t s)) in
      let c = weight_kept (λ n. is_shared (t.bindings n)) (names_of t s) in
      let e = defined_light t s.located.ordinal s.located.kind in
      omega (arith, b, c, e)

  locals_light : (before xs : List LaidStatement) → symbol_weight (local_symbols t laid before xs) ≤ length xs + statement_said xs
  locals_light before [] = omega arith
  locals_light before (s ∷ xs) =
      let next = local_symbols t laid (before ++ s ∷ []) xs in
      let a = symbols_append (unnamed_symbols t (references t laid) before s) (named_symbols t laid s ++ next) in
      let b = symbols_append (named_symbols t laid s) next in
      let c = unnamed_light before s in
      let d = named_light s in
      let e = locals_light (before ++ s ∷ []) xs in
      omega (arith, a, b, c, d, e)

  exports_light : (xs : List LaidStatement) → symbol_weight (flat_map (exports_of t laid) xs) ≤ statement_said xs
  exports_light [] = omega arith
  exports_light (s ∷ xs) =
      let a = symbols_append (exports_of t laid s) (flat_map (exports_of t laid) xs) in
      let b = exported_light s in
      let c = exports_light xs in
      omega (arith, a, b, c)

  -- ---- what is left undefined

  missing_light : (o : ℕ) (q : Primary) → weight (missing_name t o q) ≤ symbol_heft q
  missing_light o (Named name) = go (definition t o (Named name))
    where
      go : (d : Option Definition) → weight (elim d [ None ↦ name ∷ [] | Some d ↦ [] ]) ≤ 1 + (length name + 0)
      go None = omega arith
      go (Some d) = omega arith
  missing_light o (Literal n) = omega arith
  missing_light o Here = omega arith
  missing_light o (Reference digits forward) = omega arith

  all_missing : (rs : List SymbolUse) → weight (flat_map (λ r. missing_name t r.ordinal r.symbol) rs) ≤ use_heft rs
  all_missing [] = omega arith
  all_missing (r ∷ rs) =
      let a = weight_append (missing_name t r.ordinal r.symbol) (flat_map (λ r. missing_name t r.ordinal r.symbol) rs) in
      let b = missing_light r.ordinal r.symbol in
      let c = all_missing rs in
      omega (arith, a, b, c)

  distinct_light : (before ns : List (List ℕ)) → weight (distinct_from before ns) ≤ weight ns
  distinct_light before [] = omega arith
  distinct_light before (n ∷ ns) = go (is_one_of before n) (distinct_light before ns) (distinct_light (n ∷ before) ns)
    where
      go : (b : Bool) → weight (distinct_from before ns) ≤ weight ns → weight (distinct_from (n ∷ before) ns) ≤ weight ns
          → weight (if b then distinct_from before ns else n ∷ distinct_from (n ∷ before) ns) ≤ 1 + (length n + weight ns)
      go true h k = omega (arith, h)
      go false h k = omega (arith, k)

  undefined_light : symbol_weight (undefined_symbols t laid) ≤ 2 * statement_said laid
  undefined_light =
      let ns = flat_map (λ r. missing_name t r.ordinal r.symbol) (references t laid) in
      let a = globals_of t Undefined (distinct_from [] ns) in
      let b = distinct_light [] ns in
      let c = all_missing (references t laid) in
      let d = references_light t laid in
      omega (arith, a, b, c, d)

  pub symbols_light : symbol_weight (symbols_of t laid) ≤ length laid + 4 * statement_said laid
  symbols_light =
      let a = symbols_append (local_symbols t laid [] laid) (exports t laid ++ undefined_symbols t laid) in
      let b = symbols_append (exports t laid) (undefined_symbols t laid) in
      let c = locals_light [] laid in
      let d = exports_light laid in
      let e = undefined_light in
      omega (arith, a, b, c, d, e)
