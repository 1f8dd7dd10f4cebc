-- So both objects have one table of symbols.

use Rattle.std.proofs.Common.{◌≡◌, ℕ, Bool, true, false, List, [], ◌∷◌, ◌++◌, refl, ap, ◌∙◌, Option, Some, None}
use Rattle.std.specs.Prelude.{not, ◌&&◌, ◌||◌, ◌==◌, map, filter, flat_map, if◌then◌else◌}
use Rattle.std.specs.List.{list_any}
use Rattle.rv_expression_laws.specs.Values.{Meaning, Known, InSection as InData, Open as OpenAddress, Refused}
use Rattle.rv_statement_laws.specs.Statement.{StatementKind, Directs, Sets}
use Rattle.rv_unit_laws.specs.Bindings.{is_shared}
use Rattle.rv_unit_laws.specs.Tables.{Tables, Assignment, assigned_ever}
use Rattle.rv_source_laws.specs.Exports.{defined_name, names_where}
use Rattle.rv_object_laws.specs.declared.symbol.Definition.{Definition as Defined}
use Rattle.rv_object_laws.specs.declared.symbol.Definition.TheVariants.{Undefined, Absolute, InSection, Skipped}
use Rattle.rv_assemble_laws.specs.LaidStatements.{LaidStatement, LaidPart}
use Rattle.rv_assemble_laws.specs.Symbols.{SymbolUse, laid_at, after_found, assigned_definition, statement_definition, local_symbol, shared_symbol, references_in, references_of, references, is_meant, are_together, unnamed_symbols, is_absolute, named_symbols, local_symbols, exports_of, exports, missing_name, distinct_from, symbols_of}
use Rattle.rv_unique_theorems.proofs.RecodedLemmas.{recode, IsAlike, Recoded, Ended, More}

module _ (t : Tables) where
  append_same : {X : Type 0} (a b c d : List X) → a ≡ b → c ≡ d → a ++ c ≡ b ++ d
  append_same a b c d e f = ap (λ l. l ++ c) e ∙ ap (λ l. b ++ l) f

  -- ---- places

  found_same : (b : Bool) (s : LaidStatement) (i : ℕ) (c : List (List ℕ)) (plus : ℕ) (x y : Option LaidStatement) → after_found y plus ≡ after_found x plus
      → after_found (if b then Some (recode s i c) else y) plus ≡ after_found (if b then Some s else x) plus
  found_same true s i c plus x y e = refl
  found_same false s i c plus x y e = e

  pub place_same : (xs ys : List LaidStatement) → Recoded t xs ys → (o plus : ℕ) → after_found (laid_at ys o) plus ≡ after_found (laid_at xs o) plus
  place_same _ _ Ended o plus = refl
  place_same _ _ (More s i c xs ys one rest) o plus = found_same (s.located.ordinal == o) s i c plus (laid_at xs o) (laid_at ys o) (place_same xs ys rest o plus)

  assigned_same : (xs ys : List LaidStatement) → Recoded t xs ys → (found : Option Assignment) → assigned_definition ys found ≡ assigned_definition xs found
  assigned_same xs ys r None = refl
  assigned_same xs ys r (Some a) = go a.meaning
    where
      go : (m : Meaning)
          → ◌≡◌ {A = Defined} (elim m [ Known n ↦ Absolute n | InData section offset ↦ after_found (laid_at ys a.ordinal) a.plus | OpenAddress ↦ Skipped 0 | Refused code ↦ Skipped 0 ])
          (elim m [ Known n ↦ Absolute n | InData section offset ↦ after_found (laid_at xs a.ordinal) a.plus | OpenAddress ↦ Skipped 0 | Refused code ↦ Skipped 0 ])
      go (Known n) = refl
      go (InData section offset) = place_same xs ys r a.ordinal a.plus
      go OpenAddress = refl
      go (Refused code) = refl

  definition_same : (xs ys : List LaidStatement) → Recoded t xs ys → (s : LaidStatement) (i : ℕ) (c : List (List ℕ)) (kind : StatementKind)
      → statement_definition t ys (recode s i c) kind ≡ statement_definition t xs s kind
  definition_same xs ys r s i c (Directs (Sets name e)) = assigned_same xs ys r (assigned_ever t.assignments name)
  definition_same xs ys r s i c (Directs d) = refl
  definition_same xs ys r s i c kind = refl

  -- ---- what relocations name

  references_same : (xs ys : List LaidStatement) → Recoded t xs ys → references t ys ≡ references t xs
  references_same _ _ Ended = refl
  references_same _ _ (More s i c xs ys one rest) =
      append_same (references_of t (recode s i c)) (references_of t s) (references t ys) (references t xs)
      (ap (λ (ps : List LaidPart). if s.located.home.loaded then flat_map references_in ps else []) one.parts) (references_same xs ys rest)

  -- ---- symbols

  seen_same : (rs : List SymbolUse) (s : LaidStatement) (i : ℕ) (c : List (List ℕ)) (xs ys : List LaidStatement) → Recoded t xs ys
      → list_any (λ q. are_together (recode s i c) q && is_meant t rs q) ys ≡ list_any (λ q. are_together s q && is_meant t rs q) xs
  seen_same rs s i c _ _ Ended = refl
  seen_same rs s i c _ _ (More q j d xs ys one rest) = ap (λ b. (are_together s q && is_meant t rs q) || b) (seen_same rs s i c xs ys rest)

  more_same : (xs ys : List LaidStatement) → Recoded t xs ys → (s : LaidStatement) (i : ℕ) (c : List (List ℕ)) → IsAlike t s i c → Recoded t (xs ++ s ∷ []) (ys ++ recode s i c ∷ [])
  more_same _ _ Ended s i c one = More s i c [] [] one Ended
  more_same _ _ (More q j d xs ys two rest) s i c one = More q j d (xs ++ s ∷ []) (ys ++ recode s i c ∷ []) two (more_same xs ys rest s i c one)

  module _ (all every : List LaidStatement) (same : Recoded t all every) where
    unnamed_same : (before earlier : List LaidStatement) → Recoded t before earlier → (s : LaidStatement) (i : ℕ) (c : List (List ℕ))
        → unnamed_symbols t (references t every) earlier (recode s i c) ≡ unnamed_symbols t (references t all) before s
    unnamed_same before earlier r s i c =
        ap (λ rs. unnamed_symbols t rs earlier (recode s i c)) (references_same all every same)
        ∙ ap (λ b. if is_meant t (references t all) s && not b then local_symbol [] (InSection s.located.section s.offset) ∷ [] else []) (seen_same (references t all) s i c before earlier r)

    named_same : (s : LaidStatement) (i : ℕ) (c : List (List ℕ)) → named_symbols t every (recode s i c) ≡ named_symbols t all s
    named_same s i c =
        ap (λ (d : Defined). filter (λ x. not (is_absolute x)) (map (λ name. local_symbol name d) (filter (λ name. not (is_shared (t.bindings name))) (defined_name t s.located.ordinal s.located.kind))))
        (definition_same all every same s i c s.located.kind)

    exported_same : (s : LaidStatement) (i : ℕ) (c : List (List ℕ)) → exports_of t every (recode s i c) ≡ exports_of t all s
    exported_same s i c =
        ap (λ (d : Defined). map (λ name. shared_symbol t name d) (names_where is_shared t s.located)) (definition_same all every same s i c s.located.kind)

    locals_same : (before earlier xs ys : List LaidStatement) → Recoded t before earlier → Recoded t xs ys → local_symbols t every earlier ys ≡ local_symbols t all before xs
    locals_same before earlier _ _ r Ended = refl
    locals_same before earlier _ _ r (More s i c xs ys one rest) =
        append_same (unnamed_symbols t (references t every) earlier (recode s i c)) (unnamed_symbols t (references t all) before s) _ _ (unnamed_same before earlier r s i c)
        (append_same (named_symbols t every (recode s i c)) (named_symbols t all s) _ _ (named_same s i c)
        (locals_same (before ++ s ∷ []) (earlier ++ recode s i c ∷ []) xs ys (more_same before earlier r s i c one) rest))

    exports_from_same : (xs ys : List LaidStatement) → Recoded t xs ys → flat_map (exports_of t every) ys ≡ flat_map (exports_of t all) xs
    exports_from_same _ _ Ended = refl
    exports_from_same _ _ (More s i c xs ys one rest) =
        append_same (exports_of t every (recode s i c)) (exports_of t all s) _ _ (exported_same s i c) (exports_from_same xs ys rest)

    pub symbols_same : symbols_of t every ≡ symbols_of t all
    symbols_same =
        append_same (local_symbols t every [] every) (local_symbols t all [] all) _ _ (locals_same [] [] all every Ended same)
        (append_same (exports t every) (exports t all) _ _ (exports_from_same all every same)
        (ap (λ (rs : List SymbolUse). map (λ name. shared_symbol t name Undefined) (distinct_from [] (flat_map (λ r. missing_name t r.ordinal r.symbol) rs))) (references_same all every same)))
