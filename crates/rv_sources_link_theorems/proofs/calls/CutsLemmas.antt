-- The statements of a section of code where calls are cut: each stands where what is kept before it ends.

use Rattle.std.proofs.Common.{◌≡◌, ℕ, zero, suc, ◌+◌, Bool, true, false, List, [], ◌∷◌, ◌++◌, length, map, refl, sym, ap, ◌∙◌, subst, Option, ◌⊎◌, inl, inr}
use Rattle.std.specs.Prelude.{⊤, ◌&&◌, ◌==◌, nat_lt, if◌then◌else◌, unwrap_or}
use Rattle.std.specs.List.{AllByRecursion}
use Rattle.rv_list_laws.proofs.EachLemmas.{each_append}
use Rattle.rv_isa.specs.declared.kind.Kind.{Kind}
use Rattle.rv_isa.specs.declared.kind.Kind.TheVariants as kinds
use Rattle.rv_isa.specs.declared.kind.Kind.TheVariants.{Abs32, Abs64, Add8, Add16, Add32, Add64, Sub8, Sub16, Sub32, Sub64}
use Rattle.rv_expression_laws.specs.Values.{Value, Constant, Symbolic, Difference, Faulty}
use Rattle.rv_statement_laws.specs.declared.mnemonic.Mnemonic.{Mnemonic}
use Rattle.rv_statement_laws.specs.Statement.{StatementKind, Label, Numbered, Instruction, Directs, Operand, Expression, Enters, Opens, Binds, Sets, Chooses, Ignored, Aligns, Emits}
use Rattle.rv_pseudo_laws.specs.Code.{Part as CodePart, Closed, Open as Open_part, Joined, code}
use Rattle.rv_unit_laws.specs.Sections.{Section as SourceSection}
use Rattle.rv_unit_laws.specs.Tables.{Tables, alignment_of}
use Rattle.rv_source_laws.specs.Sized.{is_call_mnemonic}
use Rattle.rv_source_laws.specs.Shortened.{is_call_statement, link_register}
use Rattle.rv_object_laws.specs.Object.{Relocation}
use Rattle.rv_link_laws.specs.CallSites as objects
use Rattle.rv_link_laws.specs.Shortened.{Sizes, is_shortened}
use Rattle.rv_assemble_laws.specs.CodeFields.{relax_fields}
use Rattle.rv_assemble_laws.specs.Coded.{constants}
use Rattle.rv_assemble_laws.specs.Templates.{Template, Fixed, Datum, Coded, Open, value_fields, template_fields, absolute_kind, add_kind, subtract_kind, templates_of_data, padding_templates}
use Rattle.rv_assemble_laws.specs.LaidStatements.{LaidStatement, expression_value, laid_part, part_bytes, coded_templates, HasSize, IsPadded, IsPaddedIn}
use Rattle.rv_assemble_laws.specs.IsObjectOf.{Numbering, relocation_at, relocations_from}
use Rattle.rv_assemble_laws.proofs.DataTemplatesLemmas.{each_datum}
use Rattle.rv_sources_link_theorems.proofs.sections.AssembledLemmas.{assembled_templates}
use Rattle.rv_sources_link_theorems.proofs.calls.CalledLemmas.{IsForm, IsUncalled, uncalled}
use Rattle.rv_sources_link_theorems.proofs.statements.FieldedLemmas.{part_kinds}
use Rattle.rv_sources_link_theorems.proofs.calls.LongCallsLemmas as long
use Rattle.rv_sources_link_theorems.proofs.calls.LongCallsLemmas.{IsLongCall, long_call}
use Rattle.rv_sources_link_theorems.proofs.statements.MarkedLemmas.{part_fields}
use Rattle.rv_sources_link_theorems.proofs.statements.PadsLemmas.{at, bare_before}
use Rattle.rv_sources_link_theorems.proofs.statements.SettledLemmas.{IsLaidIn}
use Rattle.rv_sources_link_theorems.proofs.calls.UncutLemmas.{IsUncut}
use Rattle.rv_sources_link_theorems.proofs.fields.WholesLemmas.{IsSound}

-- ---- the two sorts of statements

abbrev pub link_of : StatementKind → ℕ
link_of (Instruction m os) = link_register m os
link_of _ = 0

-- whether the statement is a call that is cut
abbrev pub is_cut : Sizes → LaidStatement → Bool
is_cut sizes z = is_call_statement z.located.kind && nat_lt (sizes z.offset) 8

abbrev pub AreCalm : Sizes → List Relocation → Type 0
AreCalm sizes rs = AllByRecursion (λ r. is_shortened sizes r ≡ false) rs

-- one that stays as it is
pub record IsStill (t : Tables) (number : Numbering) (sizes : Sizes) (multiple : ℕ) (z : LaidStatement) (kind : StatementKind) : Type 0 where
  pub calm : (is_call_statement kind && nat_lt (sizes z.offset) 8) ≡ false
  pub whole : is_call_statement kind ≡ true → z.bytes ≡ sizes z.offset
  pub same : (n : ℕ) → assembled_templates t (at n z) kind ≡ assembled_templates t z kind
  pub none : AreCalm sizes (relocations_from number z.offset (map (laid_part z.located.ordinal) (assembled_templates t z kind)))
  pub sized : (n : ℕ) → z.located.placed ≡ true → HasSize (expression_value t z.located) (at n z) multiple kind

-- a call that is cut
pub record IsCutCall (t : Tables) (sizes : Sizes) (z : LaidStatement) : Type 0 where
  pub m : Mnemonic
  pub os : List Operand
  pub is_kind : z.located.kind ≡ Instruction m os
  pub call : is_call_mnemonic m ≡ true
  pub long : IsLongCall t z m os
  pub short : (sizes z.offset ≡ 4) ⊎ ((sizes z.offset ≡ 2) × (link_register m os ≡ 0))
  pub less : nat_lt (sizes z.offset) 8 ≡ true

-- ---- kinds of fields

either_kind : (b : Bool) (k q : Kind) → objects.is_call k ≡ false → objects.is_call q ≡ false → objects.is_call (if b then k else q) ≡ false
either_kind true k q e f = e
either_kind false k q e f = f

absolute_calm : (width : ℕ) → objects.is_call (absolute_kind width) ≡ false
absolute_calm width = either_kind (width == 4) Abs32 Abs64 refl refl

add_calm : (width : ℕ) → objects.is_call (add_kind width) ≡ false
add_calm width =
    either_kind (width == 1) Add8 (if width == 2 then Add16 else if width == 4 then Add32 else Add64) refl
    (either_kind (width == 2) Add16 (if width == 4 then Add32 else Add64) refl (either_kind (width == 4) Add32 Add64 refl refl))

subtract_calm : (width : ℕ) → objects.is_call (subtract_kind width) ≡ false
subtract_calm width =
    either_kind (width == 1) Sub8 (if width == 2 then Sub16 else if width == 4 then Sub32 else Sub64) refl
    (either_kind (width == 2) Sub16 (if width == 4 then Sub32 else Sub64) refl (either_kind (width == 4) Sub32 Sub64 refl refl))

abbrev pub NoCalls : List Open → Type 0
NoCalls fs = AllByRecursion (λ (f : Open). objects.is_call f.kind ≡ false) fs

value_calm : (ordinal width : ℕ) (v : Value) → NoCalls (value_fields ordinal width v)
value_calm ordinal width (Constant n) = tt
value_calm ordinal width (Symbolic q at plus) = (absolute_calm width, tt)
value_calm ordinal width (Difference q r plus) = (add_calm width, (subtract_calm width, tt))
value_calm ordinal width (Faulty code) = tt

-- templates without a call
abbrev pub IsCalm : Template → Type 0
IsCalm (Fixed bytes) = ⊤
IsCalm (Datum width v) = ⊤
IsCalm (Coded bytes fields) = NoCalls fields

pub template_calm : (ordinal : ℕ) (q : Template) → IsCalm q → NoCalls (template_fields ordinal q)
template_calm ordinal (Fixed bytes) h = tt
template_calm ordinal (Datum width v) h = value_calm ordinal width v
template_calm ordinal (Coded bytes fields) h = h

pub padding_calm : (b : Bool) (ordinal bytes : ℕ) → AllByRecursion IsCalm (padding_templates b ordinal bytes)
padding_calm true ordinal zero = tt
padding_calm true ordinal (suc n) = ((refl, tt), tt)
padding_calm false ordinal bytes = (tt, tt)

-- of a statement without calls
pub code_calm : (t : Tables) (v : Expression → Value) (z : LaidStatement) (ps : List CodePart) (coded : List (List ℕ)) → AllByRecursion IsUncalled ps
    → AllByRecursion IsCalm (coded_templates (part_fields t v z.located) ps coded)
code_calm t v z [] coded h = tt
code_calm t v z (p ∷ ps) [] h = tt
code_calm t v z (p ∷ ps) (bytes ∷ coded) (h, hs) = (own p h, code_calm t v z ps coded hs)
  where
    own : (p : CodePart) → IsUncalled p → NoCalls (part_fields t v z.located p)
    own (Closed i) h = tt
    own (Open_part k i) h =
        part_kinds (λ k. objects.is_call k ≡ false) t v z.located (Open_part k i)
        (λ q j e. (let same : k ≡ q = cc in subst (λ x. objects.is_call x ≡ false) same h)) (λ q i j e. absurd (cc)) refl
    own (Joined k i j) h = absurd h

module _ (number : Numbering) (sizes : Sizes) where
  calm_join : (xs ys : List Relocation) → AreCalm sizes xs → AreCalm sizes ys → AreCalm sizes (xs ++ ys)
  calm_join xs ys h k = each_append (λ r. is_shortened sizes r ≡ false) xs ys h k

  calm_fields : (o : ℕ) (fs : List Open) → NoCalls fs → AreCalm sizes (map (relocation_at number o) fs)
  calm_fields o [] h = tt
  calm_fields o (f ∷ fs) (h, hs) = (ap (λ b. b && nat_lt (sizes o) 8) h, calm_fields o fs hs)

  calm_parts : (o ordinal : ℕ) (ts : List Template) → AllByRecursion IsCalm ts → AreCalm sizes (relocations_from number o (map (laid_part ordinal) ts))
  calm_parts o ordinal [] h = tt
  calm_parts o ordinal (q ∷ ts) (h, hs) =
      calm_join (map (relocation_at number o) (template_fields ordinal q)) (relocations_from number (o + length (part_bytes (laid_part ordinal q))) (map (laid_part ordinal) ts))
      (calm_fields o (template_fields ordinal q) (template_calm ordinal q h)) (calm_parts (o + length (part_bytes (laid_part ordinal q))) ordinal ts hs)

-- ---- which sort a statement is

module _ (t : Tables) (number : Numbering) (sizes : Sizes) (multiple : ℕ) (section : SourceSection) (code : section.executable ≡ true) (z : LaidStatement) (home : z.located.home ≡ section) (uncut : IsUncut z)
    (sound : IsSound t z.located) (fits : is_call_statement z.located.kind ≡ true → IsForm (link_of z.located.kind) (sizes z.offset)) where
  abbrev v : Expression → Value
  v = expression_value t z.located

  abbrev Still : StatementKind → Type 0
  Still kind = IsStill t number sizes multiple z kind

  none_of : (ts : List Template) → AllByRecursion IsCalm ts → AreCalm sizes (relocations_from number z.offset (map (laid_part z.located.ordinal) ts))
  none_of ts h = calm_parts number sizes z.offset z.located.ordinal ts h

  in_code : z.located.home.executable ≡ true
  in_code = ap (λ s. s.executable) home ∙ code

  padded_still : (al : Option ℕ) (w : Value) (n : ℕ) → IsPadded z multiple w al → IsPadded (at n z) multiple w al
  padded_still al w n (constant, divides, size) = (constant, divides, go z.located.home.executable in_code size)
    where
      go : (b : Bool) → b ≡ true → IsPaddedIn b z al → IsPaddedIn b (at n z) al
      go true e h = h
      go false e h = absurd (cc)

  -- a call
  by_size : (m : Mnemonic) (os : List Operand) → z.located.kind ≡ Instruction m os → is_call_mnemonic m ≡ true → HasSize v z multiple (Instruction m os)
      → Still (Instruction m os) ⊎ IsCutCall t sizes z
  by_size m os e call size = go (nat_lt (sizes z.offset) 8) refl
    where
      h : IsLongCall t z m os
      h = long_call t z multiple m os e call size (uncut (ap is_call_statement e ∙ call)) sound

      form_short : IsForm (link_of z.located.kind) (sizes z.offset) → nat_lt (sizes z.offset) 8 ≡ true → (sizes z.offset ≡ 4) ⊎ ((sizes z.offset ≡ 2) × (link_register m os ≡ 0))
      form_short (inl eight) less = let f : false ≡ true = ap (λ n. nat_lt n 8) (sym eight) ∙ less in absurd (cc)
      form_short (inr (inl four)) less = inl four
      form_short (inr (inr (two, none))) less = inr (two, ap link_of (sym e) ∙ none)

      form_long : IsForm (link_of z.located.kind) (sizes z.offset) → nat_lt (sizes z.offset) 8 ≡ false → sizes z.offset ≡ 8
      form_long (inl eight) less = eight
      form_long (inr (inl four)) less = let f : true ≡ false = ap (λ n. nat_lt n 8) (sym four) ∙ less in absurd (cc)
      form_long (inr (inr (two, none))) less = let f : true ≡ false = ap (λ n. nat_lt n 8) (sym two) ∙ less in absurd (cc)

      go : (b : Bool) → nat_lt (sizes z.offset) 8 ≡ b → Still (Instruction m os) ⊎ IsCutCall t sizes z
      go true less = inr (record { m = m; os = os; is_kind = e; call = call; long = h; short = form_short (fits (ap is_call_statement e ∙ call)) less; less = less })
      go false less = inl (record {
        calm = ap (λ b. b && nat_lt (sizes z.offset) 8) call ∙ less;
        whole = λ c. h.bytes ∙ sym (form_long (fits (ap is_call_statement e ∙ call)) less);
        same = λ n. refl;
        none = subst (λ ts. AreCalm sizes (relocations_from number z.offset (map (laid_part z.located.ordinal) ts))) (sym (long.was t z multiple m os e call h))
            (calm_join number sizes (map (relocation_at number z.offset) (long.field t z multiple m os e call h kinds.CallPlt ∷ long.mark t z multiple m os e call h)) []
            (less, marks_calm z.located.options.relax) tt);
        sized = λ n placed. size;
      })
        where
          marks_calm : (b : Bool) → AreCalm sizes (map (relocation_at number z.offset) (relax_fields b z.located.ordinal))
          marks_calm true = (refl, tt)
          marks_calm false = tt

  sort_placed : (kind : StatementKind) → z.located.kind ≡ kind → HasSize v z multiple kind → Still kind ⊎ IsCutCall t sizes z
  sort_placed (Label name) e size = inl (record { calm = refl; whole = λ c. absurd (cc); same = λ n. refl; none = tt; sized = λ n placed. size })
  sort_placed (Numbered number) e size = inl (record { calm = refl; whole = λ c. absurd (cc); same = λ n. refl; none = tt; sized = λ n placed. size })
  sort_placed (Instruction m os) e size = go (is_call_mnemonic m) refl
    where
      go : (b : Bool) → is_call_mnemonic m ≡ b → Still (Instruction m os) ⊎ IsCutCall t sizes z
      go true call = by_size m os e call size
      go false call = inl (record {
        calm = ap (λ b. b && nat_lt (sizes z.offset) 8) call;
        whole = λ c. let f : true ≡ false = sym c ∙ call in absurd (cc);
        same = λ n. refl;
        none = none_of (assembled_templates t z (Instruction m os))
            (subst (λ o. AllByRecursion IsCalm (coded_templates (part_fields t v z.located) (unwrap_or o []) z.coded)) (sym size.parts)
            (code_calm t v z size.ps z.coded (uncalled (constants v) z.located.options.rvc z.bytes m os size.ps call size.parts)));
        sized = λ n placed. size;
      })
  sort_placed (Directs (Emits contents)) e size = inl (record {
    calm = refl;
    whole = λ c. absurd (cc);
    same = λ n. refl;
    none = none_of (templates_of_data v contents z.bytes) (each_datum IsCalm (λ bytes. tt) (λ width value. tt) v contents z.bytes);
    sized = λ n placed. size;
  })
  sort_placed (Directs (Aligns form x)) e size = inl (record {
    calm = refl;
    whole = λ c. absurd (cc);
    same = λ n. refl;
    none = none_of (padding_templates z.located.home.executable z.located.ordinal z.bytes) (padding_calm z.located.home.executable z.located.ordinal z.bytes);
    sized = λ n placed. padded_still (alignment_of v (Aligns form x)) (v x) n size;
  })
  sort_placed (Directs (Enters opened)) e size = inl (record { calm = refl; whole = λ c. absurd (cc); same = λ n. refl; none = tt; sized = λ n placed. size })
  sort_placed (Directs (Opens name flags k)) e size = inl (record { calm = refl; whole = λ c. absurd (cc); same = λ n. refl; none = tt; sized = λ n placed. size })
  sort_placed (Directs (Binds binding names)) e size = inl (record { calm = refl; whole = λ c. absurd (cc); same = λ n. refl; none = tt; sized = λ n placed. size })
  sort_placed (Directs (Sets name x)) e size = inl (record { calm = refl; whole = λ c. absurd (cc); same = λ n. refl; none = tt; sized = λ n placed. size })
  sort_placed (Directs (Chooses choice)) e size = inl (record { calm = refl; whole = λ c. absurd (cc); same = λ n. refl; none = tt; sized = λ n placed. size })
  sort_placed (Directs Ignored) e size = inl (record { calm = refl; whole = λ c. absurd (cc); same = λ n. refl; none = tt; sized = λ n placed. size })

  -- one without a place is no call
  no_call : (kind : StatementKind) → ((m : Mnemonic) (os : List Operand) → kind ≡ Instruction m os → z.located.placed ≡ true) → z.located.placed ≡ false → is_call_statement kind ≡ false
  no_call (Instruction m os) h e = let f : true ≡ false = sym (h m os refl) ∙ e in absurd (cc)
  no_call (Label name) h e = refl
  no_call (Numbered number) h e = refl
  no_call (Directs d) h e = refl

  pub sort_of : (index : ℕ) → IsLaidIn index section z → (z.located.placed ≡ true → HasSize v z multiple z.located.kind) → Still z.located.kind ⊎ IsCutCall t sizes z
  sort_of index is size = go z.located.placed refl
    where
      go : (b : Bool) → z.located.placed ≡ b → Still z.located.kind ⊎ IsCutCall t sizes z
      go true e = sort_placed z.located.kind refl (size e)
      go false e =
          let bare : (n : ℕ) → assembled_templates t (at n z) z.located.kind ≡ [] = λ n. bare_before z.located.kind (λ all y. is.bare e all y) t (at n z) in
          let here : assembled_templates t z z.located.kind ≡ [] = bare_before z.located.kind (λ all y. is.bare e all y) t z in
          inl (record {
            calm = ap (λ b. b && nat_lt (sizes z.offset) 8) (no_call z.located.kind is.instructed e);
            whole = λ c. let f : true ≡ false = sym c ∙ no_call z.located.kind is.instructed e in absurd (cc);
            same = λ n. bare n ∙ sym here;
            none = subst (λ ts. AreCalm sizes (relocations_from number z.offset (map (laid_part z.located.ordinal) ts))) (sym here) tt;
            sized = λ n placed. let f : true ≡ false = sym placed ∙ e in absurd (cc);
          })
