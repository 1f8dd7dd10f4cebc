-- Relocations name their symbols in the order of their statements, but for places of statements.

use Rattle.std.proofs.Common.{◌≡◌, ℕ, zero, suc, ◌+◌, ◌≤◌, Bool, true, false, List, [], ◌∷◌, ◌++◌, length, map, refl, sym, ap, ◌∙◌, subst, arith, append_assoc, inl, inr, Option, Some, None}
use Rattle.rv_isa.specs.Kinds.{is_low_part}
use Rattle.std.specs.Prelude.{◌⊎◌, flat_map, unwrap_or, if◌then◌else◌}
use Rattle.std.specs.List.{AllByRecursion}
use Rattle.rv_list_laws.proofs.ElementsLemmas.{cons_parts}
use Rattle.rv_isa.specs.declared.kind.Kind.{Kind}
use Rattle.rv_expression_laws.specs.Expression.{Primary, Here}
use Rattle.rv_expression_laws.specs.Values.{Value, Constant, Symbolic, Difference, Faulty}
use Rattle.rv_statement_laws.specs.declared.pseudo.Function.TheVariants.{Hi, Lo, PcrelHi, PcrelLo}
use Rattle.rv_statement_laws.specs.Statement.{StatementKind, Label, Numbered, Instruction, Directs, Statement, Expression, Operand, Register, Value as Of_value, Applied, Target, Accesses, Word, Quoted, Values, Strings, Zeros}
use Rattle.rv_pseudo_laws.specs.Code.{Part as CodePart, Closed, Open as OpenPart, Joined, code}
use Rattle.rv_unit_laws.specs.Contributions.{Contribution, Nothing, Bytes, Alignment, contribution}
use Rattle.rv_unit_laws.specs.Tables.{Tables, Definition, definition, after}
use Rattle.rv_source_laws.specs.Located.{Located, located_from}
use Rattle.rv_source_laws.specs.Lines.{operand_of}
use Rattle.rv_assemble_laws.specs.CodeFields.{symbol_field, low_field, low_field_at, label_field, field_of, relax_fields, part_fields}
use Rattle.rv_assemble_laws.specs.Coded.{constants}
use Rattle.rv_assemble_laws.specs.Templates.{Template, Open, value_fields, Datum, padding_templates, contribution_templates}
use Rattle.rv_assemble_laws.specs.LaidStatements.{LaidStatement, laid_part, parts_of, expression_value, coded_templates, templates}
use Rattle.rv_assemble_laws.specs.Symbols.{SymbolUse, use_of, references_in, references_of, references}
use Rattle.rv_symbols.specs.Found.{is_here, Rises}
use Rattle.rv_assemble_laws.proofs.UseWeightsLemmas.{uses}

-- ---- what a statement's uses are

-- a use of a statement: of its own, or of the place of one that a symbol of its own means
abbrev pub Names : Tables → ℕ → SymbolUse → Type 0
Names t n r =
    (r.ordinal ≡ n) ⊎ ((r.symbol ≡ Here) × ((q : Primary) × ((d : Definition) × (definition t n q ≡ Some d) × (r.ordinal ≡ d.ordinal))))

abbrev pub AreOf : Tables → ℕ → List SymbolUse → Type 0
AreOf t n rs = AllByRecursion (Names t n) rs

uses_join : (fs gs : List Open) → uses (fs ++ gs) ≡ uses fs ++ uses gs
uses_join [] gs = refl
uses_join (f ∷ fs) gs = ap (λ l. use_of f.ordinal f.symbol ++ l) (uses_join fs gs) ∙ sym (append_assoc (use_of f.ordinal f.symbol) (uses fs) (uses gs))

of_join : (t : Tables) (n : ℕ) (rs qs : List SymbolUse) → AreOf t n rs → AreOf t n qs → AreOf t n (rs ++ qs)
of_join t n [] qs h k = k
of_join t n (r ∷ rs) qs (h, hs) k = (h, of_join t n rs qs hs k)

-- ---- code

of_symbol : (t : Tables) (n : ℕ) (k : Kind) (v : Value) → AreOf t n (uses (symbol_field k n v))
of_symbol t n k (Constant number) = tt
of_symbol t n k (Symbolic symbol at plus) = (inl refl, tt)
of_symbol t n k (Difference symbol minus plus) = tt
of_symbol t n k (Faulty code) = tt

of_label : (t : Tables) (n : ℕ) (k : Kind) (v : Value) → AreOf t n (uses (label_field t k n v))
of_label t n k (Constant number) = tt
of_label t n k (Symbolic symbol at plus) = go (definition t n symbol) refl
  where
    go : (found : Option Definition) → definition t n symbol ≡ found → AreOf t n (uses (low_field_at k found plus))
    go None e = tt
    go (Some d) e = (inr (refl, (symbol, (d, e, refl))), tt)
of_label t n k (Difference symbol minus plus) = tt
of_label t n k (Faulty code) = tt

of_target : (t : Tables) (n : ℕ) (k : Kind) (v : Value) (low : Bool) → AreOf t n (uses (if low then low_field k n 0 else symbol_field k n v))
of_target t n k v true = (inl refl, tt)
of_target t n k v false = of_symbol t n k v

of_operand : (t : Tables) (v : Expression → Value) (n : ℕ) (o : Option Operand) (k : Kind) → AreOf t n (uses (field_of t v n o k))
of_operand t v n None k = tt
of_operand t v n (Some (Register number)) k = tt
of_operand t v n (Some (Of_value e)) k = of_symbol t n k (v e)
of_operand t v n (Some (Applied Hi e)) k = of_symbol t n k (v e)
of_operand t v n (Some (Applied Lo e)) k = of_symbol t n k (v e)
of_operand t v n (Some (Applied PcrelHi e)) k = of_symbol t n k (v e)
of_operand t v n (Some (Applied PcrelLo e)) k = of_label t n k (v e)
of_operand t v n (Some (Target e)) k = of_target t n k (v e) (is_low_part k)
of_operand t v n (Some (Accesses set)) k = tt
of_operand t v n (Some (Word name)) k = tt
of_operand t v n (Some (Quoted bytes)) k = tt

of_relax : (t : Tables) (n : ℕ) (relax : Bool) → AreOf t n (uses (relax_fields relax n))
of_relax t n true = tt
of_relax t n false = tt

of_part : (t : Tables) (v : Expression → Value) (s : Located) (p : CodePart) → AreOf t s.ordinal (uses (part_fields t v s p))
of_part t v s (Closed i) = tt
of_part t v s (OpenPart k i) = of_operand t v s.ordinal (operand_of s.kind) k
of_part t v s (Joined k i j) =
    subst (AreOf t s.ordinal) (sym (uses_join (field_of t v s.ordinal (operand_of s.kind) k) (relax_fields s.options.relax s.ordinal)))
    (of_join t s.ordinal _ _ (of_operand t v s.ordinal (operand_of s.kind) k) (of_relax t s.ordinal s.options.relax))

-- ---- templates

abbrev Parts : Tables → ℕ → List Template → Type 0
Parts t n ts = AreOf t n (flat_map references_in (map (laid_part n) ts))

of_data : (t : Tables) (n width : ℕ) (v : Value) → AreOf t n (uses (value_fields n width v))
of_data t n width (Constant number) = tt
of_data t n width (Symbolic symbol at plus) = (inl refl, tt)
of_data t n width (Difference symbol minus plus) = (inl refl, (inl refl, tt))
of_data t n width (Faulty code) = tt

of_values : (t : Tables) (n width : ℕ) (v : Expression → Value) (es : List Expression) → Parts t n (map (λ e. Datum width (v e)) es)
of_values t n width v [] = tt
of_values t n width v (e ∷ es) = of_join t n (uses (value_fields n width (v e))) _ (of_data t n width (v e)) (of_values t n width v es)

of_padding : (t : Tables) (n : ℕ) (executable : Bool) (bytes : ℕ) → Parts t n (padding_templates executable n bytes)
of_padding t n true zero = tt
of_padding t n true (suc bytes) = tt
of_padding t n false bytes = tt

of_contribution : (t : Tables) (executable : Bool) (n : ℕ) (v : Expression → Value) (c : Contribution) (bytes : ℕ) → Parts t n (contribution_templates executable n v c bytes)
of_contribution t executable n v Nothing bytes = tt
of_contribution t executable n v (Bytes (Values width es)) bytes = of_values t n width v es
of_contribution t executable n v (Bytes (Strings ended strings)) bytes = tt
of_contribution t executable n v (Bytes (Zeros count)) bytes = tt
of_contribution t executable n v (Alignment by number) bytes = of_padding t n executable bytes

of_code : (t : Tables) (v : Expression → Value) (s : Located) (ps : List CodePart) (coded : List (List ℕ)) → Parts t s.ordinal (coded_templates (part_fields t v s) ps coded)
of_code t v s [] coded = tt
of_code t v s (p ∷ ps) [] = tt
of_code t v s (p ∷ ps) (bytes ∷ coded) = of_join t s.ordinal (uses (part_fields t v s p)) _ (of_part t v s p) (of_code t v s ps coded)

of_kind : (t : Tables) (s : LaidStatement) (kind : StatementKind) → Parts t s.located.ordinal (templates t s kind)
of_kind t s (Label name) = tt
of_kind t s (Numbered number) = tt
of_kind t s (Instruction mnemonic operands) =
    of_code t (expression_value t s.located) s.located (unwrap_or (code (constants (expression_value t s.located)) s.located.options.rvc s.bytes mnemonic operands) []) s.coded
of_kind t s (Directs d) = of_contribution t s.located.home.executable s.located.ordinal (expression_value t s.located) (contribution d) s.bytes

pub of_laid_statement : (t : Tables) (s : LaidStatement) → AreOf t s.located.ordinal (references_of t s)
of_laid_statement t s = go s.located.home.loaded
  where
    go : (b : Bool) → AreOf t s.located.ordinal (if b then flat_map references_in (parts_of t s) else [])
    go true = of_kind t s s.located.kind
    go false = tt

-- ---- their order

own : (t : Tables) (n : ℕ) (r : SymbolUse) → Names t n r → is_here r.symbol ≡ false → r.ordinal ≡ n
own t n r (inl e) f = e
own t n r (inr (e, h)) f = absurd (let g : is_here r.symbol ≡ true = ap is_here e in cc)

lower : (low n high : ℕ) (rs : List SymbolUse) → low ≤ n → Rises n high rs → Rises low high rs
lower low n high [] l h = tt
lower low n high (r ∷ rs) l (a, h) = (λ e. (let b = (a e).0 in omega arith, (a e).1), go (is_here r.symbol) (lower low n high rs l) h)
  where
    go : (b : Bool) → (Rises n high rs → Rises low high rs) → Rises (if b then n else r.ordinal) high rs → Rises (if b then low else r.ordinal) high rs
    go true ih h = ih h
    go false ih h = h

rises_join : (t : Tables) (low n high : ℕ) (rs qs : List SymbolUse) → low ≤ n → n ≤ high → AreOf t n rs → Rises n high qs → Rises low high (rs ++ qs)
rises_join t low n high [] qs l k h r = lower low n high qs l r
rises_join t low n high (x ∷ rs) qs l k (e, h) r = (
  λ f. (let is = own t n x e f in omega (arith, is), let is = own t n x e f in omega (arith, is)),
  go (is_here x.symbol) refl (λ m j. rises_join t m n high rs qs j k h r),
)
  where
    go : (b : Bool) → is_here x.symbol ≡ b → ((m : ℕ) → m ≤ n → Rises m high (rs ++ qs)) → Rises (if b then low else x.ordinal) high (rs ++ qs)
    go true f ih = ih low l
    go false f ih = ih x.ordinal (let is = own t n x e f in omega (arith, is))

pub rises_from : (t : Tables) (k high : ℕ) (u : Tables) (ss : List Statement) (laid : List LaidStatement) → map (λ s. s.located) laid ≡ located_from 1 k u ss → k + length ss ≤ high + 1 → Rises k high (references t laid)
rises_from t k high u ss [] e h = tt
rises_from t k high u [] (s ∷ laid) e h = absurd (cc)
rises_from t k high u (x ∷ ss) (s ∷ laid) e h =
    let own : s.located.ordinal ≡ k = ap (λ (l : Located). l.ordinal) (cons_parts _ _ _ _ e).0 in
    rises_join t k k high (references_of t s) (references t laid) (omega arith) (omega arith) (subst (λ n. AreOf t n (references_of t s)) own (of_laid_statement t s))
    (lower k (suc k) high (references t laid) (omega arith) (rises_from t (suc k) high (after u k x.kind) ss laid (cons_parts _ _ _ _ e).1 (omega arith)))
