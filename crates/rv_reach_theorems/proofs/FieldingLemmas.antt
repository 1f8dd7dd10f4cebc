-- The fields of branches and jumps in an object of a source: each is that of its statement alone, with the statement's target.

use Rattle.std.proofs.Common.{◌≡◌, ℕ, zero, suc, ◌+◌, Bool, true, false, List, [], ◌∷◌, ◌++◌, length, map, refl, sym, ap, ◌∙◌, subst, arith, Option, Some, None, ◌⊎◌, inl, inr, ◌<◌, ◌&&◌}
use Rattle.std.specs.Prelude.{⊤, ◌==◌, if◌then◌else◌, flat_map, unwrap_or}
use Rattle.std.specs.List.{AllByRecursion}
use Rattle.rv_list_laws.proofs.EachLemmas.{each_split, each_append}
use Rattle.rv_isa.specs.Kinds.{is_low_part}
use Rattle.rv_isa.specs.declared.instruction.Inst.{Inst}
use Rattle.rv_isa.specs.declared.kind.Kind.{Kind}
use Rattle.rv_isa.specs.declared.kind.Kind.TheVariants.{Abs32, Abs64, Add8, Add16, Add32, Add64, Sub8, Sub16, Sub32, Sub64}
use Rattle.rv_expression_laws.specs.Expression.{Primary}
use Rattle.rv_expression_laws.specs.Values.{Meaning, Value, Constant, Symbolic, Difference, Faulty}
use Rattle.rv_statement_laws.specs.declared.mnemonic.Mnemonic.{Mnemonic}
use Rattle.rv_statement_laws.specs.declared.pseudo.Function.TheVariants.{Hi, Lo, PcrelHi, PcrelLo}
use Rattle.rv_statement_laws.specs.Statement.{StatementKind, Label, Numbered, Instruction, Directs, Operand, Value as Of_value, Applied, Target, Expression}
use Rattle.rv_pseudo_laws.specs.Code.{Part as CodePart, Closed, Open as Open_part, Joined, named_form, code}
use Rattle.rv_pseudo_laws.specs.Filled.{are_closed}
use Rattle.rv_unit_laws.specs.Contributions.{Contribution, Nothing, Bytes, Alignment, contribution}
use Rattle.rv_unit_laws.specs.Tables.{Tables, Definition, definition}
use Rattle.rv_source_laws.specs.Located.{Located}
use Rattle.rv_source_laws.specs.Lines.{operand_of}
use Rattle.rv_source_laws.specs.Compressed.{names_parcel}
use Rattle.rv_source_laws.specs.Shortened.{is_call_statement}
use Rattle.rv_object_laws.specs.Object.{Relocation, Symbol}
use Rattle.rv_assemble_laws.specs.CodeFields.{symbol_field, low_field, low_field_at, label_field, field_of, relax_fields, part_fields}
use Rattle.rv_parcel.specs.declared.form.Compressed.{Compressed}
use Rattle.rv_assemble_laws.specs.Coded.{constants, AreCodedParts, joined, IsCode}
use Rattle.rv_assemble_laws.specs.Templates.{Template, Fixed, Datum, Coded, Open, open_at, value_fields, template_fields, absolute_kind, add_kind, subtract_kind, padding_templates, contribution_templates}
use Rattle.rv_assemble_laws.specs.LaidStatements.{LaidStatement, LaidPart, expression_value, laid_part, part_bytes, coded_templates, templates, parts_of, parts, Tile}
use Rattle.rv_assemble_laws.specs.Symbols.{use_of, references_in}
use Rattle.rv_assemble_laws.specs.IsObjectOf.{Numbering, relocation_at, relocations_from, IsNumbered, ArePartsNumbered}
use Rattle.rv_assemble_laws.proofs.DataTemplatesLemmas.{each_datum}
use Rattle.rv_sources_link_theorems.proofs.moves.WalkLemmas.{relocations_join}
use Rattle.rv_sources_link_theorems.proofs.calls.UncutLemmas.{IsUncut}
use Rattle.rv_link_laws.specs.Lists.{In}
use Rattle.rv_reach_theorems.specs.Reach.{is_short_branch}
use Rattle.rv_reach_theorems.proofs.BranchingLemmas.{IsUnshort, IsBranching, IsParcelled, Sorted, sorted}

-- ---- fields of no branch

either_kind : (b : Bool) (k q : Kind) → is_short_branch k ≡ false → is_short_branch q ≡ false → is_short_branch (if b then k else q) ≡ false
either_kind true k q e f = e
either_kind false k q e f = f

absolute_calm : (width : ℕ) → is_short_branch (absolute_kind width) ≡ false
absolute_calm width = either_kind (width == 4) Abs32 Abs64 refl refl

add_calm : (width : ℕ) → is_short_branch (add_kind width) ≡ false
add_calm width =
    either_kind (width == 1) Add8 (if width == 2 then Add16 else if width == 4 then Add32 else Add64) refl
    (either_kind (width == 2) Add16 (if width == 4 then Add32 else Add64) refl (either_kind (width == 4) Add32 Add64 refl refl))

subtract_calm : (width : ℕ) → is_short_branch (subtract_kind width) ≡ false
subtract_calm width =
    either_kind (width == 1) Sub8 (if width == 2 then Sub16 else if width == 4 then Sub32 else Sub64) refl
    (either_kind (width == 2) Sub16 (if width == 4 then Sub32 else Sub64) refl (either_kind (width == 4) Sub32 Sub64 refl refl))

abbrev NoBranches : List Open → Type 0
NoBranches fs = AllByRecursion (λ (f : Open). is_short_branch f.kind ≡ false) fs

value_calm : (ordinal width : ℕ) (v : Value) → NoBranches (value_fields ordinal width v)
value_calm ordinal width (Constant n) = tt
value_calm ordinal width (Symbolic q at plus) = (absolute_calm width, tt)
value_calm ordinal width (Difference q r plus) = (add_calm width, (subtract_calm width, tt))
value_calm ordinal width (Faulty code) = tt

abbrev IsCalm : Template → Type 0
IsCalm (Fixed bytes) = ⊤
IsCalm (Datum width v) = ⊤
IsCalm (Coded bytes fields) = NoBranches fields

template_calm : (ordinal : ℕ) (q : Template) → IsCalm q → NoBranches (template_fields ordinal q)
template_calm ordinal (Fixed bytes) h = tt
template_calm ordinal (Datum width v) h = value_calm ordinal width v
template_calm ordinal (Coded bytes fields) h = h

padding_calm : (b : Bool) (ordinal bytes : ℕ) → AllByRecursion IsCalm (padding_templates b ordinal bytes)
padding_calm true ordinal zero = tt
padding_calm true ordinal (suc n) = ((refl, tt), tt)
padding_calm false ordinal bytes = (tt, tt)

directive_calm : (executable : Bool) (ordinal : ℕ) (v : Expression → Value) (c : Contribution) (bytes : ℕ) → AllByRecursion IsCalm (contribution_templates executable ordinal v c bytes)
directive_calm executable ordinal v Nothing bytes = tt
directive_calm executable ordinal v (Bytes contents) bytes = each_datum IsCalm (λ bytes. tt) (λ width value. tt) v contents bytes
directive_calm executable ordinal v (Alignment counts number) bytes = padding_calm executable ordinal bytes

-- those of code

symbol_calm : (k : Kind) (ordinal : ℕ) (v : Value) → is_short_branch k ≡ false → NoBranches (symbol_field k ordinal v)
symbol_calm k ordinal (Constant n) e = tt
symbol_calm k ordinal (Symbolic q at plus) e = (e, tt)
symbol_calm k ordinal (Difference q r plus) e = tt
symbol_calm k ordinal (Faulty code) e = tt

low_calm : (k : Kind) (d : Option Definition) (plus : ℕ) → is_short_branch k ≡ false → NoBranches (low_field_at k d plus)
low_calm k None plus e = tt
low_calm k (Some d) plus e = (e, tt)

label_calm : (t : Tables) (k : Kind) (ordinal : ℕ) (v : Value) → is_short_branch k ≡ false → NoBranches (label_field t k ordinal v)
label_calm t k ordinal (Constant n) e = tt
label_calm t k ordinal (Symbolic q at plus) e = low_calm k (definition t ordinal q) plus e
label_calm t k ordinal (Difference q r plus) e = tt
label_calm t k ordinal (Faulty code) e = tt

field_calm : (t : Tables) (v : Expression → Value) (ordinal : ℕ) (o : Option Operand) (k : Kind) → is_short_branch k ≡ false → NoBranches (field_of t v ordinal o k)
field_calm t v ordinal (Some (Applied PcrelLo x)) k e = label_calm t k ordinal (v x) e
field_calm t v ordinal (Some (Of_value x)) k e = symbol_calm k ordinal (v x) e
field_calm t v ordinal (Some (Applied Hi x)) k e = symbol_calm k ordinal (v x) e
field_calm t v ordinal (Some (Applied Lo x)) k e = symbol_calm k ordinal (v x) e
field_calm t v ordinal (Some (Applied PcrelHi x)) k e = symbol_calm k ordinal (v x) e
field_calm t v ordinal (Some (Target x)) k e = go (is_low_part k)
  where
    go : (b : Bool) → NoBranches (if b then low_field k ordinal 0 else symbol_field k ordinal (v x))
    go true = (e, tt)
    go false = symbol_calm k ordinal (v x) e
field_calm t v ordinal o k e = tt

fields_join : (xs ys : List Open) → NoBranches xs → NoBranches ys → NoBranches (xs ++ ys)
fields_join [] ys h k = k
fields_join (x ∷ xs) ys (h, hs) k = (h, fields_join xs ys hs k)

relax_calm : (b : Bool) (ordinal : ℕ) → NoBranches (relax_fields b ordinal)
relax_calm true ordinal = (refl, tt)
relax_calm false ordinal = tt

part_calm : (t : Tables) (v : Expression → Value) (s : Located) (p : CodePart) → IsUnshort p → NoBranches (part_fields t v s p)
part_calm t v s (Closed i) h = tt
part_calm t v s (Open_part k i) h = field_calm t v s.ordinal (operand_of s.kind) k h
part_calm t v s (Joined k i j) h =
    fields_join (field_of t v s.ordinal (operand_of s.kind) k) (relax_fields s.options.relax s.ordinal) (field_calm t v s.ordinal (operand_of s.kind) k h) (relax_calm s.options.relax s.ordinal)

code_calm : (t : Tables) (v : Expression → Value) (s : Located) (ps : List CodePart) (coded : List (List ℕ)) → AllByRecursion IsUnshort ps → AllByRecursion IsCalm (coded_templates (part_fields t v s) ps coded)
code_calm t v s [] coded h = tt
code_calm t v s (p ∷ ps) [] h = tt
code_calm t v s (p ∷ ps) (bytes ∷ coded) (h, hs) = (part_calm t v s p h, code_calm t v s ps coded hs)

-- ---- the field of a branch

no_low : (k : Kind) → is_short_branch k ≡ true → is_low_part k ≡ false
no_low k h = grind arith

module _ (t : Tables) (all : List LaidStatement) (number : Numbering) (symbols : List Symbol) (zs : List LaidStatement) where
  pub record IsBranchOf (r : Relocation) : Type 0 where
    pub z : LaidStatement
    pub inside : In z zs
    pub m : Mnemonic
    pub os : List Operand
    pub is_kind : z.located.kind ≡ Instruction m os
    pub branching : IsBranching z.located.options.rvc z.bytes m os r.kind
    pub name : Primary
    pub plus : ℕ
    pub at : Meaning
    pub value_is : expression_value t z.located branching.to ≡ Symbolic name at plus
    pub numbered : IsNumbered t all number symbols (record { ordinal = z.located.ordinal; symbol = name })
    pub is : r ≡ relocation_at number z.offset (open_at r.kind z.located.ordinal (Some name) plus)

  -- the field of a parcel that its statement names
  pub record IsParcelOf (r : Relocation) : Type 0 where
    pub z : LaidStatement
    pub inside : In z zs
    pub named : names_parcel z.located.kind ≡ true
    pub place_is : r.place ≡ z.offset
    pub some : 0 < z.bytes

  abbrev pub Sort : Relocation → Type 0
  Sort r = IsBranchOf r ⊎ IsParcelOf r

  abbrev Goal : List Relocation → Type 0
  Goal rs = AllByRecursion (λ r. is_short_branch r.kind ≡ true → Sort r) rs

  never : {A : Type 0} (b : Bool) → b ≡ false → b ≡ true → A
  never true e f = absurd (cc)
  never false e f = absurd (cc)

  calm_fields : (o : ℕ) (fs : List Open) → NoBranches fs → Goal (map (relocation_at number o) fs)
  calm_fields o [] h = tt
  calm_fields o (f ∷ fs) (h, hs) = ((λ e. never (is_short_branch f.kind) h e), calm_fields o fs hs)

  calm_parts : (o ordinal : ℕ) (ts : List Template) → AllByRecursion IsCalm ts → Goal (relocations_from number o (map (laid_part ordinal) ts))
  calm_parts o ordinal [] h = tt
  calm_parts o ordinal (q ∷ ts) (h, hs) =
      each_append (λ r. is_short_branch r.kind ≡ true → Sort r) (map (relocation_at number o) (template_fields ordinal q)) (relocations_from number (o + length (part_bytes (laid_part ordinal q))) (map (laid_part ordinal) ts))
      (calm_fields o (template_fields ordinal q) (template_calm ordinal q h)) (calm_parts (o + length (part_bytes (laid_part ordinal q))) ordinal ts hs)

  abbrev AreNumbered : List LaidPart → Type 0
  AreNumbered ps = ArePartsNumbered t all number symbols ps

  module _ (z : LaidStatement) (inside : In z zs) (m : Mnemonic) (os : List Operand) (is_kind : z.located.kind ≡ Instruction m os) where
    abbrev v : Expression → Value
    v = expression_value t z.located

    module _ (k : Kind) (branching : IsBranching z.located.options.rvc z.bytes m os k) where
      abbrev ordinal : ℕ
      ordinal = z.located.ordinal

      by_value : (w : Value) → v branching.to ≡ w → AllByRecursion (IsNumbered t all number symbols) (flat_map (λ (f : Open). use_of f.ordinal f.symbol) (symbol_field k z.located.ordinal w))
          → Goal (map (relocation_at number z.offset) (symbol_field k z.located.ordinal w))
      by_value (Constant n) e h = tt
      by_value (Difference q r plus) e h = tt
      by_value (Faulty c) e h = tt
      by_value (Symbolic q at plus) e (h, hs) = (
        (λ short. inl (record {
          z = z;
          inside = inside;
          m = m;
          os = os;
          is_kind = is_kind;
          branching = branching;
          name = q;
          plus = plus;
          at = at;
          value_is = e;
          numbered = h;
          is = refl;
        })),
        tt,
      )

      by_low : (b : Bool) → is_low_part k ≡ b → AllByRecursion (IsNumbered t all number symbols) (flat_map (λ (f : Open). use_of f.ordinal f.symbol) (if b then low_field k z.located.ordinal 0 else symbol_field k z.located.ordinal (v branching.to)))
          → Goal (map (relocation_at number z.offset) (if b then low_field k z.located.ordinal 0 else symbol_field k z.located.ordinal (v branching.to)))
      by_low true e h = ((λ short. never (is_low_part k) (no_low k short) e), tt)
      by_low false e h = by_value (v branching.to) refl h

      abbrev Uses : List Open → Type 0
      Uses fs = AllByRecursion (IsNumbered t all number symbols) (flat_map (λ (f : Open). use_of f.ordinal f.symbol) fs)

      by_field : (fs : List Open) → fs ≡ field_of t v z.located.ordinal (operand_of z.located.kind) k → Uses fs → Goal (map (relocation_at number z.offset) fs)
      by_field fs e h =
          let as_target : fs ≡ (if is_low_part k then low_field k z.located.ordinal 0 else symbol_field k z.located.ordinal (v branching.to)) =
          e ∙ ap (λ x. field_of t v z.located.ordinal x k) (ap operand_of is_kind ∙ branching.operand) in
          subst (λ l. Uses l → Goal (map (relocation_at number z.offset) l)) (sym as_target) (by_low (is_low_part k) refl) h

    -- a part alone
    one_part : (p : CodePart) (k : Kind) (i : Inst) → p ≡ Open_part k i → IsBranching z.located.options.rvc z.bytes m os k → (coded : List (List ℕ))
        → AreNumbered (map (laid_part z.located.ordinal) (coded_templates (part_fields t v z.located) (p ∷ []) coded))
        → Goal (relocations_from number z.offset (map (laid_part z.located.ordinal) (coded_templates (part_fields t v z.located) (p ∷ []) coded)))
    one_part p k i e branching [] h = tt
    one_part p k i e branching (bytes ∷ coded) (h, hs) =
        each_append (λ r. is_short_branch r.kind ≡ true → Sort r) (map (relocation_at number z.offset) (part_fields t v z.located p)) []
        (by_field k branching (part_fields t v z.located p) (ap (part_fields t v z.located) e) h) tt

    -- of a parcel that the statement names
    all_named : names_parcel z.located.kind ≡ true → 0 < z.bytes → (fs : List Open) → Goal (map (relocation_at number z.offset) fs)
    all_named named some [] = tt
    all_named named some (f ∷ fs) = ((λ short. inr (record { z = z; inside = inside; named = named; place_is = refl; some = some })), all_named named some fs)

    parcel_parts : (ps : List CodePart) (h : IsParcelled m ps) → 0 < z.bytes → (coded : List (List ℕ)) → Goal (relocations_from number z.offset (map (laid_part z.located.ordinal) (coded_templates (part_fields t v z.located) ps coded)))
    parcel_parts ps h some coded = subst (λ qs. Goal (relocations_from number z.offset (map (laid_part z.located.ordinal) (coded_templates (part_fields t v z.located) qs coded)))) (sym h.is) (one coded)
      where
        one : (coded : List (List ℕ)) → Goal (relocations_from number z.offset (map (laid_part z.located.ordinal) (coded_templates (part_fields t v z.located) (Open_part h.kind h.instruction ∷ []) coded)))
        one [] = tt
        one (bytes ∷ coded) =
            each_append (λ r. is_short_branch r.kind ≡ true → Sort r) (map (relocation_at number z.offset) (part_fields t v z.located (Open_part h.kind h.instruction))) []
            (all_named (ap names_parcel (is_kind ∙ ap (λ n. Instruction n os) h.named)) some (part_fields t v z.located (Open_part h.kind h.instruction))) tt

    by_sort : (ps : List CodePart) → Sorted z.located.options.rvc z.bytes m os ps → (IsParcelled m ps → 0 < z.bytes) → (coded : List (List ℕ))
        → AreNumbered (map (laid_part z.located.ordinal) (coded_templates (part_fields t v z.located) ps coded))
        → Goal (relocations_from number z.offset (map (laid_part z.located.ordinal) (coded_templates (part_fields t v z.located) ps coded)))
    by_sort ps (inl calm) some coded h = calm_parts z.offset z.located.ordinal (coded_templates (part_fields t v z.located) ps coded) (code_calm t v z.located ps coded calm)
    by_sort ps (inr (inr parcel)) some coded h = parcel_parts ps parcel (some parcel) coded
    by_sort ps (inr (inl alone)) some coded h =
        subst (λ qs. AreNumbered (map (laid_part z.located.ordinal) (coded_templates (part_fields t v z.located) qs coded))
        → Goal (relocations_from number z.offset (map (laid_part z.located.ordinal) (coded_templates (part_fields t v z.located) qs coded)))) (sym alone.is)
        (one_part (Open_part alone.kind alone.instruction) alone.kind alone.instruction refl alone.branching coded) h

  -- ---- a statement

  -- what is owed to it
  pub record IsFine (z : LaidStatement) : Type 0 where
    pub uncut : IsUncut z
    pub sized : (m : Mnemonic) (os : List Operand) → z.located.kind ≡ Instruction m os → IsCode (expression_value t z.located) z.located.options.rvc m os z.bytes z.coded z.instructions

  -- its bytes
  part_some : (named : Option Compressed) (c : Bool) (k : Kind) (i : Inst) (coded : List (List ℕ)) → AreCodedParts named c (Open_part k i ∷ []) coded → 0 < length (joined coded)
  part_some named c k i [] h = absurd h
  part_some named c k i (bytes ∷ b ∷ more) (h, none) = absurd none
  part_some named c k i (bytes ∷ []) ((open_one, inl (four, is)), h) = let e : length (bytes ++ []) ≡ 4 = ap (λ l. length (l ++ [])) is in omega (arith, e)
  part_some named c k i (bytes ∷ []) ((open_one, inr (two, (q, short, is))), h) = let e : length (bytes ++ []) ≡ 2 = ap (λ l. length (l ++ [])) is in omega (arith, e)

  parcel_some : (z : LaidStatement) (m : Mnemonic) (os : List Operand) (c : IsCode (expression_value t z.located) z.located.options.rvc m os z.bytes z.coded z.instructions) → IsParcelled m c.ps → 0 < z.bytes
  parcel_some z m os c h =
      let named = named_form (constants (expression_value t z.located)) m os in
      let compressed = z.located.options.rvc && are_closed c.ps in
      let some : 0 < length (joined z.coded) = part_some named compressed h.kind h.instruction z.coded (subst (λ ps. AreCodedParts named compressed ps z.coded) h.is c.coded_as) in
      let size = c.size in omega (arith, some, size)

  own : (z : LaidStatement) → In z zs → IsFine z → (kind : StatementKind) → z.located.kind ≡ kind → AreNumbered (map (laid_part z.located.ordinal) (templates t z kind))
      → Goal (relocations_from number z.offset (map (laid_part z.located.ordinal) (templates t z kind)))
  own z inside fine (Label name) e h = tt
  own z inside fine (Numbered digits) e h = tt
  own z inside fine (Directs d) e h =
      calm_parts z.offset z.located.ordinal (contribution_templates z.located.home.executable z.located.ordinal (expression_value t z.located) (contribution d) z.bytes)
      (directive_calm z.located.home.executable z.located.ordinal (expression_value t z.located) (contribution d) z.bytes)
  own z inside fine (Instruction m os) e h =
      let c = fine.sized m os e in
      subst (λ o. AreNumbered (map (laid_part z.located.ordinal) (coded_templates (part_fields t (expression_value t z.located) z.located) (unwrap_or o []) z.coded))
      → Goal (relocations_from number z.offset (map (laid_part z.located.ordinal) (coded_templates (part_fields t (expression_value t z.located) z.located) (unwrap_or o []) z.coded)))) (sym c.parts)
      (by_sort z inside m os e c.ps (sorted (constants (expression_value t z.located)) z.located.options.rvc z.bytes m os c.ps (λ call. fine.uncut (ap is_call_statement e ∙ call)) c.parts) (parcel_some z m os c) z.coded) h

  pub branches : (q : ℕ) (ys : List LaidStatement) → ((z : LaidStatement) → In z ys → In z zs) → Tile t q ys → AllByRecursion IsFine ys → AreNumbered (parts t ys) → Goal (relocations_from number q (parts t ys))
  branches q [] inside tile fine h = tt
  branches q (z ∷ ys) inside (off, bytes, tile) (one, fine) h =
      let both = each_split (λ p. AllByRecursion (IsNumbered t all number symbols) (references_in p)) (parts_of t z) (parts t ys) h in
      subst (λ l. Goal l) (ap (λ n. relocations_from number q (parts_of t z) ++ relocations_from number (q + n) (parts t ys)) bytes ∙ sym (relocations_join t number q (parts_of t z) (parts t ys)))
      (each_append (λ r. is_short_branch r.kind ≡ true → Sort r) (relocations_from number q (parts_of t z)) (relocations_from number (q + z.bytes) (parts t ys))
      (subst (λ n. Goal (relocations_from number n (parts_of t z))) off (own z (inside z (inl refl)) one z.located.kind refl both.0))
      (branches (q + z.bytes) ys (λ x i. inside x (inr i)) tile fine both.1))
