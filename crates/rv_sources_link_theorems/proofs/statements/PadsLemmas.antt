-- A statement of a section is an alignment in code with bytes, or one whose bytes stay.

use Rattle.std.proofs.Common.{◌≡◌, ℕ, zero, suc, ◌-◌, ◌%◌, ◌≤◌, ◌<◌, Bool, true, false, [], ◌∷◌, length, map, refl, sym, ap, ◌∙◌, subst, arith, Option, Some, None, ◌⊎◌, inl, inr}
use Rattle.std.proofs.lemmas.Bool.{and_parts, eqb-true, ltb-true, ltb-false, leb-true, le-leb}
use Rattle.std.proofs.Math.Pow.{pow_mono}
use Rattle.std.specs.Prelude.{⊤, ◌^◌, ◌&&◌, ◌||◌, ◌==◌, nat_lt, nat_le, if◌then◌else◌, flat_map}
use Rattle.std.specs.List.{AllByRecursion}
use Rattle.rv_isa_laws.specs.Bytes.{zeros}
use Rattle.rv_expression_laws.specs.Values.{Value, Constant, Symbolic, Difference, Faulty}
use Rattle.rv_statement_laws.specs.Statement.{StatementKind, Label, Numbered, Instruction, Directs, Expression, Enters, Opens, Binds, Sets, Chooses, Ignored, AlignmentForm, As_power, As_bytes, Aligns, Emits}
use Rattle.rv_unit_laws.specs.Sections.{Section as SourceSection}
use Rattle.rv_unit_laws.specs.Tables.{Tables, is_power_below, power_alignment, byte_alignment, alignment_as, alignment_of, padding}
use Rattle.rv_source_laws.specs.Fits.{needs_no_padding}
use Rattle.rv_source_laws.proofs.HeldLemmas.{IsHeld}
use Rattle.rv_object_laws.specs.Padding.{no_operations, operations_in}
use Rattle.rv_assemble_laws.specs.Templates.{Fixed, Coded, align_field, padding_templates}
use Rattle.rv_assemble_laws.specs.LaidStatements.{LaidStatement, expression_value, laid_part, part_bytes, IsMultiple, IsPaddedIn, HasSize}
use Rattle.rv_assemble_laws.proofs.DataTemplatesLemmas.{each_datum}
use Rattle.rv_sources_link_theorems.proofs.sections.AssembledLemmas.{assembled_templates, parts_of}
use Rattle.rv_sources_link_theorems.proofs.moves.ShrunkLemmas as shrunk
use Rattle.rv_sources_link_theorems.proofs.statements.SettledLemmas.{IsBare, IsLaidIn}
use Rattle.rv_sources_link_theorems.proofs.statements.FieldedLemmas.{IsPlain, sized_each, plain_part}
use Rattle.rv_sources_link_theorems.proofs.statements.EvensLemmas.{even_by}

-- ---- alignments

-- those that have padding in code
abbrev pub IsPower : ℕ → Type 0
IsPower a =
    (a ≡ 4) ⊎ ((a ≡ 8) ⊎ ((a ≡ 16) ⊎ ((a ≡ 32) ⊎ ((a ≡ 64) ⊎ ((a ≡ 128) ⊎ ((a ≡ 256) ⊎ ((a ≡ 512) ⊎ ((a ≡ 1024) ⊎ ((a ≡ 2048) ⊎ (a ≡ 4096))))))))))

pub by_power : (P : ℕ → Type 0) → P 4 → P 8 → P 16 → P 32 → P 64 → P 128 → P 256 → P 512 → P 1024 → P 2048 → P 4096 → (a : ℕ) → IsPower a → P a
by_power P p2 p3 p4 p5 p6 p7 p8 p9 p10 p11 p12 a (inl e) = subst P (sym e) p2
by_power P p2 p3 p4 p5 p6 p7 p8 p9 p10 p11 p12 a (inr (inl e)) = subst P (sym e) p3
by_power P p2 p3 p4 p5 p6 p7 p8 p9 p10 p11 p12 a (inr (inr (inl e))) = subst P (sym e) p4
by_power P p2 p3 p4 p5 p6 p7 p8 p9 p10 p11 p12 a (inr (inr (inr (inl e)))) = subst P (sym e) p5
by_power P p2 p3 p4 p5 p6 p7 p8 p9 p10 p11 p12 a (inr (inr (inr (inr (inl e))))) = subst P (sym e) p6
by_power P p2 p3 p4 p5 p6 p7 p8 p9 p10 p11 p12 a (inr (inr (inr (inr (inr (inl e)))))) = subst P (sym e) p7
by_power P p2 p3 p4 p5 p6 p7 p8 p9 p10 p11 p12 a (inr (inr (inr (inr (inr (inr (inl e))))))) = subst P (sym e) p8
by_power P p2 p3 p4 p5 p6 p7 p8 p9 p10 p11 p12 a (inr (inr (inr (inr (inr (inr (inr (inl e)))))))) = subst P (sym e) p9
by_power P p2 p3 p4 p5 p6 p7 p8 p9 p10 p11 p12 a (inr (inr (inr (inr (inr (inr (inr (inr (inl e))))))))) = subst P (sym e) p10
by_power P p2 p3 p4 p5 p6 p7 p8 p9 p10 p11 p12 a (inr (inr (inr (inr (inr (inr (inr (inr (inr (inl e)))))))))) = subst P (sym e) p11
by_power P p2 p3 p4 p5 p6 p7 p8 p9 p10 p11 p12 a (inr (inr (inr (inr (inr (inr (inr (inr (inr (inr e)))))))))) = subst P (sym e) p12

-- which can be had
abbrev pub IsValidAlignment : Option ℕ → Type 0
IsValidAlignment None = ⊤
IsValidAlignment (Some a) = (a ≤ 2) ⊎ IsPower a

of_exponent : (j : ℕ) → j < 13 → (a : ℕ) → a ≡ 2 ^ j → (a ≤ 2) ⊎ IsPower a
of_exponent zero h a e = inl (omega (arith, e))
of_exponent (suc zero) h a e = inl (omega (arith, e))
of_exponent (suc (suc zero)) h a e = inr (inl e)
of_exponent (suc (suc (suc zero))) h a e = inr (inr (inl e))
of_exponent (suc (suc (suc (suc zero)))) h a e = inr (inr (inr (inl e)))
of_exponent (suc (suc (suc (suc (suc zero))))) h a e = inr (inr (inr (inr (inl e))))
of_exponent (suc (suc (suc (suc (suc (suc zero)))))) h a e = inr (inr (inr (inr (inr (inl e)))))
of_exponent (suc (suc (suc (suc (suc (suc (suc zero))))))) h a e = inr (inr (inr (inr (inr (inr (inl e))))))
of_exponent (suc (suc (suc (suc (suc (suc (suc (suc zero)))))))) h a e = inr (inr (inr (inr (inr (inr (inr (inl e)))))))
of_exponent (suc (suc (suc (suc (suc (suc (suc (suc (suc zero))))))))) h a e = inr (inr (inr (inr (inr (inr (inr (inr (inl e))))))))
of_exponent (suc (suc (suc (suc (suc (suc (suc (suc (suc (suc zero)))))))))) h a e = inr (inr (inr (inr (inr (inr (inr (inr (inr (inl e)))))))))
of_exponent (suc (suc (suc (suc (suc (suc (suc (suc (suc (suc (suc zero))))))))))) h a e = inr (inr (inr (inr (inr (inr (inr (inr (inr (inr (inl e))))))))))
of_exponent (suc (suc (suc (suc (suc (suc (suc (suc (suc (suc (suc (suc zero)))))))))))) h a e = inr (inr (inr (inr (inr (inr (inr (inr (inr (inr (inr e))))))))))
of_exponent (suc (suc (suc (suc (suc (suc (suc (suc (suc (suc (suc (suc (suc j))))))))))))) h a e = absurd (omega (arith, h))

power_valid : (v : Value) → IsValidAlignment (power_alignment v)
power_valid (Constant k) = go (nat_lt k 13) refl
  where
    go : (b : Bool) → nat_lt k 13 ≡ b → IsValidAlignment (if b then Some (2 ^ k) else None)
    go true e = of_exponent k (ltb-true k 13 e) (2 ^ k) refl
    go false e = tt
power_valid (Symbolic q at plus) = tt
power_valid (Difference q r plus) = tt
power_valid (Faulty c) = tt

exponent_of : (k n : ℕ) → is_power_below k n ≡ true → (j : ℕ) × (n ≡ 2 ^ j)
exponent_of zero n e = absurd (cc)
exponent_of (suc k) n e = go (n == 2 ^ k) refl e (exponent_of k n)
  where
    go : (b : Bool) → (n == 2 ^ k) ≡ b → (b || is_power_below k n) ≡ true → (is_power_below k n ≡ true → (j : ℕ) × (n ≡ 2 ^ j)) → (j : ℕ) × (n ≡ 2 ^ j)
    go true f e later = (k, eqb-true n (2 ^ k) f)
    go false f e later = later e

byte_valid : (v : Value) → IsValidAlignment (byte_alignment v)
byte_valid (Constant n) = go (is_power_below 63 n && nat_le n 4096) refl
  where
    by : (j : ℕ) → n ≡ 2 ^ j → n ≤ 4096 → (b : Bool) → nat_lt j 13 ≡ b → (n ≤ 2) ⊎ IsPower n
    by j e low true f = of_exponent j (ltb-true j 13 f) n e
    by j e low false f =
        let far : 13 ≤ j = let h = ltb-false j 13 f in omega (arith, h) in
        let more : 8192 ≤ 2 ^ j = pow_mono far in absurd (omega (arith, low, e, more))

    go : (b : Bool) → (is_power_below 63 n && nat_le n 4096) ≡ b → IsValidAlignment (if b then Some n else None)
    go true e =
        let both = and_parts (is_power_below 63 n) (nat_le n 4096) e in
        let (j, f) = exponent_of 63 n both.0 in by j f (leb-true n 4096 both.1) (nat_lt j 13) refl
    go false e = tt
byte_valid (Symbolic q at plus) = tt
byte_valid (Difference q r plus) = tt
byte_valid (Faulty c) = tt

pub form_valid : (form : AlignmentForm) (v : Value) → IsValidAlignment (alignment_as form v)
form_valid As_power v = power_valid v
form_valid As_bytes v = byte_valid v

-- ---- the two sorts of statements

-- the statement at an offset
abbrev pub at : ℕ → LaidStatement → LaidStatement
at n z = record { located = z.located; offset = n; bytes = z.bytes; instructions = z.instructions; coded = z.coded }

-- and with so many bytes of padding
abbrev pub padded : ℕ → ℕ → LaidStatement → LaidStatement
padded n b z = record { located = z.located; offset = n; bytes = b; instructions = operations_in b; coded = z.coded }

pub record IsPlainLaid (t : Tables) (section : SourceSection) (multiple : ℕ) (z : LaidStatement) (kind : StatementKind) : Type 0 where
  pub same : (n : ℕ) → shrunk.shrunk_templates t (at n z) kind ≡ assembled_templates t z kind
  pub none : AllByRecursion IsPlain (assembled_templates t z kind)
  pub sized : (n : ℕ) → (section.executable ≡ false → n ≡ z.offset) → z.located.placed ≡ true → shrunk.HasShrunkSize (expression_value t z.located) (at n z) multiple kind
  pub even : section.executable ≡ true → z.bytes % 2 ≡ 0

pub record IsPadLaid (t : Tables) (section : SourceSection) (multiple : ℕ) (z : LaidStatement) (kind : StatementKind) : Type 0 where
  pub code : section.executable ≡ true
  pub a : ℕ
  pub power : IsPower a
  pub full : z.bytes ≡ a - 2
  pub count : z.instructions ≡ operations_in z.bytes
  pub divides : multiple % a ≡ 0
  pub was : assembled_templates t z kind ≡ Coded (no_operations z.bytes) (align_field z.located.ordinal z.bytes ∷ []) ∷ []
  pub is : (n b : ℕ) → shrunk.shrunk_templates t (padded n b z) kind ≡ shrunk.padding_templates true b
  pub sized : (n b : ℕ) → b ≡ padding (Some a) n → b % 2 ≡ 0 → shrunk.HasShrunkSize (expression_value t z.located) (padded n b z) multiple kind

padding_was : (o n : ℕ) → 0 < n → padding_templates true o n ≡ Coded (no_operations n) (align_field o n ∷ []) ∷ []
padding_was o zero h = absurd (omega (arith, h))
padding_was o (suc n) h = refl

high : (a : ℕ) → IsPower a → (needs_no_padding (Some a) ≡ false) × (0 < a - 2)
high a h =
    by_power (λ a. (needs_no_padding (Some a) ≡ false) × (0 < a - 2)) (refl, omega arith) (refl, omega arith) (refl, omega arith) (refl, omega arith) (refl, omega arith) (refl, omega arith)
    (refl, omega arith) (refl, omega arith) (refl, omega arith) (refl, omega arith) (refl, omega arith) a h

pub bare_before : (kind : StatementKind) → ((all : Tables) (z : LaidStatement) → shrunk.shrunk_templates all z kind ≡ []) → (all : Tables) (z : LaidStatement) → assembled_templates all z kind ≡ []
bare_before (Label name) h all z = refl
bare_before (Numbered number) h all z = refl
bare_before (Instruction m os) h all z = h all z
bare_before (Directs (Emits contents)) h all z = h all z
bare_before (Directs (Aligns form e)) h all z = absurd (never z.located.home.executable (h all (padded 0 1 z)))
  where
    never : (b : Bool) → shrunk.padding_templates b 1 ≡ [] → ⊥
    never true e = absurd (cc)
    never false e = absurd (cc)
bare_before (Directs (Sets name e)) h all z = refl
bare_before (Directs _) h all z = refl

module _ (t : Tables) (section : SourceSection) (multiple : ℕ) (z : LaidStatement) (home : z.located.home ≡ section) where
  abbrev v : Expression → Value
  v = expression_value t z.located

  abbrev Plain : StatementKind → Type 0
  Plain kind = IsPlainLaid t section multiple z kind

  abbrev Pad : StatementKind → Type 0
  Pad kind = IsPadLaid t section multiple z kind

  no_code : {A : Type 0} → section.executable ≡ false → section.executable ≡ true → A
  no_code aside code = let e : true ≡ false = sym code ∙ aside in absurd (cc)

  -- ---- an alignment

  module _ (kind : StatementKind) (al : Option ℕ) (valid : IsValidAlignment al) (divides : IsMultiple al multiple)
      (was : assembled_templates t z kind ≡ padding_templates z.located.home.executable z.located.ordinal z.bytes)
      (at_is : (n : ℕ) → shrunk.shrunk_templates t (at n z) kind ≡ shrunk.padding_templates z.located.home.executable z.bytes)
      (padded_is : (n b : ℕ) → shrunk.shrunk_templates t (padded n b z) kind ≡ shrunk.padding_templates z.located.home.executable b)
      (at_sized : (n : ℕ) → shrunk.IsPaddedIn z.located.home.executable (at n z) al → shrunk.HasShrunkSize v (at n z) multiple kind)
      (padded_sized : (n b : ℕ) → shrunk.IsPaddedIn z.located.home.executable (padded n b z) al → shrunk.HasShrunkSize v (padded n b z) multiple kind) where
    in_data : z.located.home.executable ≡ false → z.bytes ≡ padding al z.offset → z.instructions ≡ 0 → Plain kind
    in_data e bytes none =
        let aside : section.executable ≡ false = ap (λ x. x.executable) (sym home) ∙ e in
        let before : assembled_templates t z kind ≡ Fixed (zeros z.bytes) ∷ [] = was ∙ ap (λ b. padding_templates b z.located.ordinal z.bytes) e in
        record {
          same = λ n. at_is n ∙ ap (λ b. shrunk.padding_templates b z.bytes) e ∙ sym before;
          none = subst (λ l. AllByRecursion IsPlain l) (sym before) (tt, tt);
          sized = λ n same placed. at_sized n (subst (λ b. shrunk.IsPaddedIn b (at n z) al) (sym e) (bytes ∙ ap (padding al) (sym (same aside)), none));
          even = λ code. no_code aside code;
        }

    without : z.located.home.executable ≡ true → needs_no_padding al ≡ true → z.bytes ≡ 0 → z.instructions ≡ operations_in z.bytes → Plain kind
    without e low bytes count =
        let before : assembled_templates t z kind ≡ [] = was ∙ ap (λ b. padding_templates b z.located.ordinal z.bytes) e ∙ ap (padding_templates true z.located.ordinal) bytes in
        record {
          same = λ n. at_is n ∙ ap (λ b. shrunk.padding_templates b z.bytes) e ∙ ap (shrunk.padding_templates true) bytes ∙ sym before;
          none = subst (λ l. AllByRecursion IsPlain l) (sym before) tt;
          sized = λ n same placed. at_sized n (subst (λ b. shrunk.IsPaddedIn b (at n z) al) (sym e)
              (bytes ∙ ap (λ b. if b then 0 else padding al n) (sym low), ap (λ n. n % 2) bytes, count));
          even = λ code. ap (λ n. n % 2) bytes;
        }

  module _ (kind : StatementKind) (a : ℕ) (divides : IsMultiple (Some a) multiple)
      (was : assembled_templates t z kind ≡ padding_templates z.located.home.executable z.located.ordinal z.bytes)
      (padded_is : (n b : ℕ) → shrunk.shrunk_templates t (padded n b z) kind ≡ shrunk.padding_templates z.located.home.executable b)
      (padded_sized : (n b : ℕ) → shrunk.IsPaddedIn z.located.home.executable (padded n b z) (Some a) → shrunk.HasShrunkSize v (padded n b z) multiple kind) where
    with_padding : z.located.home.executable ≡ true → IsPower a → z.bytes ≡ a - 2 → z.instructions ≡ operations_in z.bytes → Pad kind
    with_padding e power bytes count =
        let some : 0 < z.bytes = let h = (high a power).1 in omega (arith, bytes, h) in
        record {
          code = ap (λ x. x.executable) (sym home) ∙ e;
          a = a;
          power = power;
          full = bytes;
          count = count;
          divides = divides.1;
          was = was ∙ ap (λ b. padding_templates b z.located.ordinal z.bytes) e ∙ padding_was z.located.ordinal z.bytes some;
          is = λ n b. padded_is n b ∙ ap (λ x. shrunk.padding_templates x b) e;
          sized = λ n b is even. padded_sized n b (subst (λ x. shrunk.IsPaddedIn x (padded n b z) (Some a)) (sym e)
              (is ∙ ap (λ x. if x then 0 else padding (Some a) n) (sym (high a power).0), even, refl));
        }

  align_by : (kind : StatementKind) (al : Option ℕ) → IsValidAlignment al → IsMultiple al multiple
      → assembled_templates t z kind ≡ padding_templates z.located.home.executable z.located.ordinal z.bytes
      → ((n : ℕ) → shrunk.shrunk_templates t (at n z) kind ≡ shrunk.padding_templates z.located.home.executable z.bytes)
      → ((n b : ℕ) → shrunk.shrunk_templates t (padded n b z) kind ≡ shrunk.padding_templates z.located.home.executable b)
      → ((n : ℕ) → shrunk.IsPaddedIn z.located.home.executable (at n z) al → shrunk.HasShrunkSize v (at n z) multiple kind)
      → ((n b : ℕ) → shrunk.IsPaddedIn z.located.home.executable (padded n b z) al → shrunk.HasShrunkSize v (padded n b z) multiple kind)
      → (x : Bool) → z.located.home.executable ≡ x → IsPaddedIn x z al → Plain kind ⊎ Pad kind
  align_by kind al valid divides was ai pi as' ps false e (bytes, none) = inl (in_data kind al valid divides was ai pi as' ps e bytes none)
  align_by kind None valid divides was ai pi as' ps true e (bytes, count) = inl (without kind None valid divides was ai pi as' ps e refl bytes count)
  align_by kind (Some a) (inl low) divides was ai pi as' ps true e (bytes, count) =
      inl (without kind (Some a) (inl low) divides was ai pi as' ps e (le-leb a 2 low) (bytes ∙ (let f : a - 2 ≡ 0 = omega (arith, low) in f)) count)
  align_by kind (Some a) (inr power) divides was ai pi as' ps true e (bytes, count) =
      inr (with_padding kind a divides was pi ps e power bytes count)

  -- ---- a statement with a place

  sort_placed : (kind : StatementKind) → IsHeld section kind → HasSize v z multiple kind → Plain kind ⊎ Pad kind
  sort_placed (Label name) held size = inl (record { same = λ n. refl; none = tt; sized = λ n same placed. size; even = λ code. ap (λ n. n % 2) size.0 })
  sort_placed (Numbered number) held size = inl (record { same = λ n. refl; none = tt; sized = λ n same placed. size; even = λ code. ap (λ n. n % 2) size.0 })
  sort_placed (Instruction m os) held size = inl (record {
    same = λ n. refl;
    none = sized_each IsPlain (λ bytes. tt) (λ width value. tt) t z multiple (plain_part t v z.located) (Instruction m os) size;
    sized = λ n same placed. size;
    even = λ code. even_by z section multiple v (Instruction m os) held code home size;
  })
  sort_placed (Directs (Emits contents)) held size = inl (record {
    same = λ n. refl;
    none = each_datum IsPlain (λ bytes. tt) (λ width value. tt) v contents z.bytes;
    sized = λ n same placed. size;
    even = λ code. no_code held.0 code;
  })
  sort_placed (Directs (Aligns form e)) held (constant, divides, size) =
      align_by (Directs (Aligns form e)) (alignment_of v (Aligns form e)) (form_valid form (v e)) divides refl (λ n. refl) (λ n b. refl)
      (λ n h. (constant, divides, h)) (λ n b h. (constant, divides, h)) z.located.home.executable refl size
  sort_placed (Directs (Enters opened)) held size = inl (record { same = λ n. refl; none = tt; sized = λ n same placed. size; even = λ code. ap (λ n. n % 2) size.0 })
  sort_placed (Directs (Opens name flags k)) held size = inl (record { same = λ n. refl; none = tt; sized = λ n same placed. size; even = λ code. ap (λ n. n % 2) size.0 })
  sort_placed (Directs (Binds binding names)) held size = inl (record { same = λ n. refl; none = tt; sized = λ n same placed. size; even = λ code. ap (λ n. n % 2) size.0 })
  sort_placed (Directs (Sets name e)) held size = inl (record { same = λ n. refl; none = tt; sized = λ n same placed. size; even = λ code. ap (λ n. n % 2) size.0 })
  sort_placed (Directs (Chooses choice)) held size = inl (record { same = λ n. refl; none = tt; sized = λ n same placed. size; even = λ code. ap (λ n. n % 2) size.0 })
  sort_placed (Directs Ignored) held size = inl (record { same = λ n. refl; none = tt; sized = λ n same placed. size; even = λ code. ap (λ n. n % 2) size.0 })

  -- ---- any statement

  sort_unplaced : IsBare z.located → z.located.placed ≡ false → z.bytes ≡ length (flat_map part_bytes (parts_of t z)) → Plain z.located.kind
  sort_unplaced bare e bytes =
      let before : assembled_templates t z z.located.kind ≡ [] = bare_before z.located.kind (λ all y. bare e all y) t z in
      record {
        same = λ n. bare e t (at n z) ∙ sym before;
        none = subst (λ l. AllByRecursion IsPlain l) (sym before) tt;
        sized = λ n same placed. let f : true ≡ false = sym placed ∙ e in absurd (cc);
        even = λ code. ap (λ n. n % 2) (bytes ∙ ap (λ l. length (flat_map part_bytes (map (laid_part z.located.ordinal) l))) before);
      }

  pub sort_of : (index : ℕ) → IsLaidIn index section z → z.bytes ≡ length (flat_map part_bytes (parts_of t z)) → (z.located.placed ≡ true → HasSize v z multiple z.located.kind)
      → Plain z.located.kind ⊎ Pad z.located.kind
  sort_of index is bytes size = go z.located.placed refl
    where
      go : (b : Bool) → z.located.placed ≡ b → Plain z.located.kind ⊎ Pad z.located.kind
      go true e = sort_placed z.located.kind is.held (size e)
      go false e = inl (sort_unplaced is.bare e bytes)
