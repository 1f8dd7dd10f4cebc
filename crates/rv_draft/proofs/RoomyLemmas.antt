-- In a source without faults each statement has a size, and its section has room for it.

use Rattle.std.proofs.Common.{◌≡◌, ℕ, ◌+◌, ◌*◌, ◌-◌, ◌/◌, ◌^◌, ◌<◌, ◌≤◌, Bool, true, false, ◌||◌, nat_lt, List, [], ◌++◌, length, refl, sym, ap, ◌∙◌, subst, arith, Option, Some, None}
use Rattle.std.proofs.Math.Nat.{div-mul-le_self, mul-le-mul_right}
use Rattle.std.proofs.lemmas.Bool.{not-false, or_parts, both_ways}
use Rattle.std.proofs.lemmas.Nat.{le-div}
use Rattle.std.specs.Prelude.{IfErr, Result, Ok, Err, not, flat_map, slice_index_or, if◌then◌else◌}
use Rattle.rv_list_laws.proofs.ElementsLemmas.{append_none_parts}
use Rattle.rv_size_laws.specs.Alignment.{aligned}
use Rattle.rv_expression_laws.specs.Values.{Value, Constant, Symbolic, Difference, Faulty}
use Rattle.rv_statement_laws.specs.Statement.{StatementKind, Label, Numbered, Instruction, Directs, Expression, Directive, Sets, Values, Strings, Zeros, As_power, As_bytes, Aligns, Emits}
use Rattle.rv_unit_laws.specs.Sections.{Section, is_nobits, current_section}
use Rattle.rv_unit_laws.specs.Tables.{Tables, here, value_by_tables, alignment_of, power_alignment, byte_alignment, counted, or_none, within, padding, data_bytes, string_bytes, longest_section, after, opened_of, ends_of}
use Rattle.rv_expression_laws.specs.Codes.{faulty_if}
use Rattle.rv_unit_laws.specs.Faults.{size_faults, power_faults, bytes_faults, value_faults, code_alignment_faults, past_section, alignment_faults, data_faults, directive_faults, faults}
use Rattle.rv_unit_laws.proofs.GrownLemmas.{BeginsAt, puts, end_behind}
use Rattle.rv_unit_laws.proofs.TablesLemmas.{within_fits}
use Rattle.rv_assemble_laws.specs.Coded.{is_constant}
use Rattle.rv_source_laws.specs.Located.{is_placed, is_placed_directive}
use Rattle.rv_source_laws.proofs.HeldLemmas.{no_test}
use Rattle.rv_source_laws.proofs.TablesLemmas.{past_fits}
use Rattle.rv_assemble_laws.specs.LaidStatements.{IsMultiple}
use Rattle.rv_draft.specs.declared.item.CodeSize.{CodeSize}
use Rattle.rv_draft.specs.Sized.{IsItemPadded, IsSizedDirective, size_bytes}
use Rattle.rv_draft.specs.Measured.{stretch, IsSize, CanPad, CanSize, CanSizeDirective}

-- a statement's size, and what it makes of its section: in code no more than its code, else no more than up to this end
pub record IsRoomy (v : Expression → Value) (executable : Bool) (begins offset stop : ℕ) (own : CodeSize) (says : StatementKind) : Type 0 where
  pub size : CanSize v executable begins offset says
  pub room : (n : ℕ) → IsSize v executable begins offset own says n → offset + n ≤ longest_section
  pub code : executable ≡ true → (n : ℕ) → IsSize v executable begins offset own says n → n ≤ size_bytes own
  pub stored : executable ≡ false → (n : ℕ) → IsSize v executable begins offset own says n → offset + n ≤ stop

-- what is so whatever was refused
pub err_always : {T E : Type 0} (r : Result T E) {P : E → Type 0} → ((e : E) → P e) → IfErr r P
err_always (Ok x) h = tt
err_always (Err e) h = h e

-- an item without a place has no bytes
pub room_by : (placed : Bool) (offset bytes : ℕ) → offset ≤ 2 ^ 28 → (placed ≡ false → bytes ≡ 0) → (placed ≡ true → offset + bytes ≤ 2 ^ 28) → offset + bytes ≤ 2 ^ 28
room_by true offset bytes low none fits = fits refl
room_by false offset bytes low none fits = let e = none refl in omega (arith, e, low)

-- ---- what no fault says

-- a count of bytes
record IsCount (v : Value) (n : ℕ) : Type 0 where
  is : v ≡ Constant n
  below : nat_lt n (2 ^ 63) ≡ true

a_count : (v : Value) → size_faults v ≡ [] → (n : ℕ) × IsCount v n
a_count (Constant n) e = (n, record { is = refl; below = not-false (nat_lt n (2 ^ 63)) (no_test (not (nat_lt n (2 ^ 63))) 14 e) })
a_count (Symbolic p at k) e = absurd (cc)
a_count (Difference p q k) e = absurd (cc)
a_count (Faulty c) e = absurd (cc)

-- the constants of alignments
pub a_power : (v : Value) → power_faults v ≡ [] → (n : ℕ) × (v ≡ Constant n)
a_power (Constant k) e = (k, refl)
a_power (Symbolic p at k) e = absurd (cc)
a_power (Difference p q k) e = absurd (cc)
a_power (Faulty c) e = absurd (cc)

pub a_multiple : (v : Value) → bytes_faults v ≡ [] → (n : ℕ) × (v ≡ Constant n)
a_multiple (Constant n) e = (n, refl)
a_multiple (Symbolic p at k) e = absurd (cc)
a_multiple (Difference p q k) e = absurd (cc)
a_multiple (Faulty c) e = absurd (cc)

-- ---- padding

aligned_more : (n x y : ℕ) → 0 < n → x ≤ y → aligned n x ≤ aligned n y
aligned_more n x y some less =
    let a = x + (n - 1) in
    let b = y + (n - 1) in
    let whole : a / n * n ≤ a = div-mul-le_self a n in
    let quotient : a / n ≤ b / n = le-div (a / n) b n some (omega (arith, whole, less)) in
    mul-le-mul_right n quotient

-- after fewer bytes the padding ends no later
padding_more : (alignment : Option ℕ) (begins x y : ℕ) → BeginsAt alignment begins → x ≤ y → x + padding alignment x ≤ y + padding alignment y
padding_more None begins x y h less = omega arith
padding_more (Some n) begins x y (some, h) less = let more = aligned_more n x y some less in omega (arith, more)

multiple : (alignment : Option ℕ) (begins : ℕ) → BeginsAt alignment begins → IsMultiple alignment begins
multiple None begins h = tt
multiple (Some n) begins h = h

-- ---- one statement

module _ (all t : Tables) (k begins offset : ℕ) (own : CodeSize) (low : offset ≤ longest_section) (inside : t.current < length (opened_of t).sections)
    (whole : (e : Expression) (n : ℕ) → value_by_tables all false k (here t) e ≡ Constant n → value_by_tables all true k (here t) e ≡ Constant n)
    (past : (e : Expression) (n : ℕ) → value_by_tables all false k (here t) e ≡ Constant n → value_by_tables t false k (here t) e ≡ Constant n)
    (before : (current_section (opened_of t)).executable ≡ false → offset ≤ (here t).offset) where
  abbrev home : Section
  home = current_section (opened_of t)

  abbrev v : Expression → Value
  v e = value_by_tables all true k (here t) e

  abbrev first : Expression → Value
  first e = value_by_tables t false k (here t) e

  abbrev stop : StatementKind → ℕ
  stop says = slice_index_or (ends_of (after t k says)) t.current 0

  abbrev Here : StatementKind → Type 0
  Here says = IsRoomy v home.executable begins offset (stop says) own says

  -- a section of code has room for the statement
  abbrev Fits : Type 0
  Fits = home.executable ≡ true → offset + size_bytes own ≤ longest_section

  -- data that end no later than those of the tables
  put_here : (d : Directive) → home.executable ≡ false → puts d ≡ true → CanSizeDirective v home.executable begins offset d
      → (here t).offset + data_bytes first (here t).offset d ≤ longest_section
      → ((n : ℕ) → IsSizedDirective v home.executable own (stretch offset n) begins d → offset + n ≤ (here t).offset + data_bytes first (here t).offset d) → Here (Directs d)
  put_here d other puts size fits less = record {
    size = size;
    room = λ n h. let l = less n h in omega (arith, l, fits);
    code = λ e. absurd (both_ways home.executable other e);
    stored = λ e n h. let l = less n h in let f = end_behind t k d puts inside other in omega (arith, l, f);
  }

  -- a statement without bytes
  none_here : (says : StatementKind) → CanSize v home.executable begins offset says → ((n : ℕ) → IsSize v home.executable begins offset own says n → n ≡ 0) → (here t).offset ≤ stop says → Here says
  none_here says size none more = record {
    size = size;
    room = λ n h. let e = none n h in omega (arith, e, low);
    code = λ e n h. let f = none n h in omega (arith, f);
    stored = λ e n h. let f = none n h in let l = before e in omega (arith, f, l, more);
  }

  -- code, where its section has room for it
  code_here : (says : StatementKind) → CanSize v home.executable begins offset says → ((n : ℕ) → IsSize v home.executable begins offset own says n → n ≡ size_bytes own)
      → home.executable ≡ true → offset + size_bytes own ≤ longest_section → Here says
  code_here says size four code fits = record {
    size = size;
    room = λ n h. let f = four n h in omega (arith, f, fits);
    code = λ e n h. let f = four n h in omega (arith, f);
    stored = λ e. absurd (both_ways home.executable e code);
  }

  -- padding in data does not pass the longest section
  padding_fits : (alignment : Option ℕ) → home.executable ≡ false → alignment_faults home (here t).offset alignment ≡ [] → (here t).offset + padding alignment (here t).offset ≤ longest_section
  padding_fits alignment other none =
      past_fits false (here t).offset (padding alignment (here t).offset) refl
      (sym (ap (λ c. if c then code_alignment_faults (is_nobits home) alignment else past_section false (here t).offset (padding alignment (here t).offset)) other) ∙ none)

  values_here : (width : ℕ) (values : List Expression) → data_faults all t k (Values width values) ≡ [] → Here (Directs (Emits (Values width values)))
  values_here width values none =
      let later = append_none_parts (flat_map (λ e. value_faults width (value_by_tables all true k (here t) e)) values) (faulty_if (home.executable || is_nobits home) 15 ++ past_section home.executable (here t).offset (width * length values)) none in
      let last = append_none_parts (faulty_if (home.executable || is_nobits home) 15) (past_section home.executable (here t).offset (width * length values)) later.1 in
      let other = (or_parts home.executable (is_nobits home) (no_test (home.executable || is_nobits home) 15 last.0)).0 in
      let fits = past_fits home.executable (here t).offset (width * length values) other last.1 in
      let same : data_bytes first (here t).offset (Emits (Values width values)) ≡ width * length values = within_fits (here t).offset (width * length values) fits in
      let less = before other in
      put_here (Emits (Values width values)) other refl (omega (arith, fits)) (omega (arith, same, fits)) (λ n h. omega (arith, h, same, less))

  strings_here : (ended : Bool) (strings : List (List ℕ)) → data_faults all t k (Strings ended strings) ≡ [] → Here (Directs (Emits (Strings ended strings)))
  strings_here ended strings none =
      let count = length (string_bytes ended strings) in
      let last = append_none_parts (faulty_if (home.executable || is_nobits home) 15) (past_section home.executable (here t).offset count) none in
      let other = (or_parts home.executable (is_nobits home) (no_test (home.executable || is_nobits home) 15 last.0)).0 in
      let fits = past_fits home.executable (here t).offset count other last.1 in
      let same : data_bytes first (here t).offset (Emits (Strings ended strings)) ≡ count = within_fits (here t).offset count fits in
      let less = before other in
      put_here (Emits (Strings ended strings)) other refl (omega (arith, fits)) (omega (arith, same, fits)) (λ n h. omega (arith, h, same, less))

  zeros_here : (count : Expression) → data_faults all t k (Zeros count) ≡ [] → Here (Directs (Emits (Zeros count)))
  zeros_here count none =
      let w = value_by_tables all false k (here t) count in
      let past_faults : Option ℕ → List ℕ = λ o. elim o [ None ↦ [] | Some n ↦ past_section home.executable (here t).offset n ] in
      let later = append_none_parts (size_faults w) (faulty_if home.executable 15 ++ past_faults (counted w)) none in
      let last = append_none_parts (faulty_if home.executable 15) (past_faults (counted w)) later.1 in
      let other = no_test home.executable 15 last.0 in
      let (n, is) = a_count w later.0 in
      let found : counted w ≡ Some n = ap counted is.is ∙ ap (λ b. if b then Some n else None) is.below in
      let fits = past_fits home.executable (here t).offset n other (sym (ap past_faults found) ∙ last.1) in
      let less = before other in
      let same : data_bytes first (here t).offset (Emits (Zeros count)) ≡ n =
      ap (λ x. within (here t).offset (or_none (counted x))) (past count n is.is) ∙ ap (λ b. within (here t).offset (or_none (if b then Some n else None))) is.below ∙ within_fits (here t).offset n fits in
      put_here (Emits (Zeros count)) other refl (n, whole count n is.is, omega (arith, fits)) (omega (arith, same, fits))
      (λ m h. let f : m ≡ n = constant_is m n (sym h ∙ whole count n is.is) in omega (arith, f, same, less))
    where
      constant_is : (m n : ℕ) → Constant m ≡ Constant n → m ≡ n
      constant_is m n e = cc

  -- the padding of an alignment, by whether its section is one of code
  padding_here : (b : Bool) → home.executable ≡ b → (alignment : Option ℕ) → BeginsAt alignment begins → alignment_faults home (here t).offset alignment ≡ [] → CanPad b begins offset alignment
  padding_here true code alignment multiples none = multiple alignment begins multiples
  padding_here false other alignment multiples none =
      let fits = padding_fits alignment other none in
      let less = padding_more alignment begins offset (here t).offset multiples (before other) in
      (multiple alignment begins multiples, omega (arith, fits, less))

  -- what an alignment makes of its section
  aligned_here : (d : Directive) (alignment : Option ℕ) → puts d ≡ true → BeginsAt alignment begins → alignment_faults home (here t).offset alignment ≡ []
      → data_bytes first (here t).offset d ≡ within (here t).offset (padding alignment (here t).offset)
      → CanSizeDirective v home.executable begins offset d
      → ((n : ℕ) → IsSizedDirective v home.executable own (stretch offset n) begins d → IsItemPadded home.executable own (stretch offset n) begins alignment)
      → Fits → Here (Directs d)
  aligned_here d alignment puts multiples none bytes size padded fits = by home.executable refl
    where
      code_size : (b : Bool) (n : ℕ) → b ≡ true → IsItemPadded b own (stretch offset n) begins alignment → n ≡ size_bytes own
      code_size true n e h = h.0
      code_size false n e h = absurd (cc)

      data_size : (b : Bool) (n : ℕ) → b ≡ false → IsItemPadded b own (stretch offset n) begins alignment → n ≡ padding alignment offset
      data_size true n e h = absurd (cc)
      data_size false n e h = h.0

      by : (b : Bool) → home.executable ≡ b → Here (Directs d)
      by true code = code_here (Directs d) size (λ n h. code_size home.executable n code (padded n h)) code (fits code)
      by false other =
          let fits = padding_fits alignment other none in
          let less = padding_more alignment begins offset (here t).offset multiples (before other) in
          let same = bytes ∙ within_fits (here t).offset (padding alignment (here t).offset) fits in
          put_here d other puts size (omega (arith, same, fits)) (λ n h. let f = data_size home.executable n other (padded n h) in omega (arith, f, less, same))

  power_here : (e : Expression) → BeginsAt (alignment_of first (Aligns As_power e)) begins → directive_faults all t k (Aligns As_power e) ≡ [] → Fits → Here (Directs (Aligns As_power e))
  power_here e multiples none fits =
      let w = value_by_tables all false k (here t) e in
      let parts = append_none_parts (power_faults w) (alignment_faults home (here t).offset (power_alignment w)) none in
      let (n, is) = a_power w parts.0 in
      let now : power_alignment (v e) ≡ power_alignment w = ap power_alignment (whole e n is ∙ sym is) in
      let sooner : power_alignment (first e) ≡ power_alignment w = ap power_alignment (past e n is ∙ sym is) in
      let multiples' : BeginsAt (power_alignment (v e)) begins = subst (λ a. BeginsAt a begins) (sooner ∙ sym now) multiples in
      let none' : alignment_faults home (here t).offset (power_alignment (v e)) ≡ [] = ap (alignment_faults home (here t).offset) now ∙ parts.1 in
      aligned_here (Aligns As_power e) (power_alignment (v e)) refl multiples' none' (ap (λ a. within (here t).offset (padding a (here t).offset)) (sooner ∙ sym now))
      (ap is_constant (whole e n is), padding_here home.executable refl (power_alignment (v e)) multiples' none') (λ m h. h.1) fits

  bytes_here : (e : Expression) → BeginsAt (alignment_of first (Aligns As_bytes e)) begins → directive_faults all t k (Aligns As_bytes e) ≡ [] → Fits → Here (Directs (Aligns As_bytes e))
  bytes_here e multiples none fits =
      let w = value_by_tables all false k (here t) e in
      let parts = append_none_parts (bytes_faults w) (alignment_faults home (here t).offset (byte_alignment w)) none in
      let (n, is) = a_multiple w parts.0 in
      let now : byte_alignment (v e) ≡ byte_alignment w = ap byte_alignment (whole e n is ∙ sym is) in
      let sooner : byte_alignment (first e) ≡ byte_alignment w = ap byte_alignment (past e n is ∙ sym is) in
      let multiples' : BeginsAt (byte_alignment (v e)) begins = subst (λ a. BeginsAt a begins) (sooner ∙ sym now) multiples in
      let none' : alignment_faults home (here t).offset (byte_alignment (v e)) ≡ [] = ap (alignment_faults home (here t).offset) now ∙ parts.1 in
      aligned_here (Aligns As_bytes e) (byte_alignment (v e)) refl multiples' none' (ap (λ a. within (here t).offset (padding a (here t).offset)) (sooner ∙ sym now))
      (ap is_constant (whole e n is), padding_here home.executable refl (byte_alignment (v e)) multiples' none') (λ m h. h.1) fits

  directive_here : (d : Directive) → is_placed_directive t k d ≡ true → (puts d ≡ true → BeginsAt (alignment_of first d) begins) → (here t).offset ≤ stop (Directs d)
      → directive_faults all t k d ≡ [] → Fits → Here (Directs d)
  directive_here (Sets name e) placed multiples more none fits = none_here (Directs (Sets name e)) tt (λ n h. h) more
  directive_here (Emits (Values width values)) placed multiples more none fits = values_here width values none
  directive_here (Emits (Strings ended strings)) placed multiples more none fits = strings_here ended strings none
  directive_here (Emits (Zeros count)) placed multiples more none fits = zeros_here count none
  directive_here (Aligns As_power e) placed multiples more none fits = power_here e (multiples refl) none fits
  directive_here (Aligns As_bytes e) placed multiples more none fits = bytes_here e (multiples refl) none fits
  directive_here _ placed multiples more none fits = absurd (cc)

  pub statement_here : (says : StatementKind) → is_placed t k says ≡ true → ((d : Directive) → says ≡ Directs d → puts d ≡ true → BeginsAt (alignment_of first d) begins)
      → (here t).offset ≤ stop says → Fits → faults all t k says ≡ [] → Here says
  statement_here (Label name) placed multiples more fits none = none_here (Label name) tt (λ n h. h) more
  statement_here (Numbered number) placed multiples more fits none = none_here (Numbered number) tt (λ n h. h) more
  statement_here (Instruction mnemonic operands) placed multiples more fits none =
      let code = not-false home.executable (or_parts (not home.executable) (is_nobits home) (no_test (not home.executable || is_nobits home) 15 none)).0 in
      code_here (Instruction mnemonic operands) tt (λ n h. h) code (fits code)
  statement_here (Directs d) placed multiples more fits none = directive_here d placed (multiples d refl) more none fits
