-- What a statement adds to its section: bytes of data, and its alignment.

use Rattle.std.proofs.Common.{◌≡◌, ℕ, zero, suc, ◌+◌, ◌*◌, ◌-◌, ◌%◌, ◌^◌, ◌<◌, ◌≤◌, Bool, true, false, ◌&&◌, ◌||◌, ◌==◌, nat_lt, nat_le, List, [], ◌∷◌, ◌++◌, length, map, max, refl, sym, ap, ◌∙◌, subst, arith, Option, Some, None}
use Rattle.std.proofs.Math.Nat.{le-max_left, le-max_right, mul-mod_left}
use Rattle.std.proofs.Math.Pow.{pow-lt}
use Rattle.std.proofs.lemmas.Bool.{eqb-true, leb-true, leb-false, and_parts}
use Rattle.std.proofs.lemmas.Nat.{pow-add, pow_pos}
use Rattle.std.proofs.lemmas.List.{map-append, length-map}
use Rattle.std.specs.Prelude.{⊤, if◌then◌else◌, slice_index_or}
use Rattle.rv_expression_laws.specs.Values.{Value, Constant, Symbolic, Difference, Faulty}
use Rattle.rv_statement_laws.specs.Statement.{StatementKind, Label, Numbered, Instruction, Directs, Statement, Expression, Directive, AlignmentForm, As_power, As_bytes, Aligns, Emits}
use Rattle.rv_statement_laws.specs.declared.directive.Choice.{Choice}
use Rattle.rv_unit_laws.specs.Sections.{Section, text_section, current_section, entered_by}
use Rattle.rv_unit_laws.specs.Contributions.{Contribution, Nothing, Bytes, Alignment, contribution}
use Rattle.rv_unit_laws.specs.Tables.{Tables, Assignment, at_start, here, value_by_tables, is_power, is_power_below, greatest_alignment, alignment_of, power_alignment, byte_alignment, alignment_as, contribution_alignment, or_none, data_bytes, contributed, counted_in, changed_at, is_defined, may_set, with_assignment, with_section, with_data, with_contribution, with_choice, with_chosen, with_numeric_label, assigned_by, choice_in, after, after_directive, after_all, opened_of, ends_of, alignments_of, Extent, least_alignment, empty_extent, extended}
use Rattle.rv_unit_laws.proofs.EnteringLemmas.{with_new, sections_count, entering}

-- ---- powers of two

abbrev pub IsPower : ℕ → Type 0
IsPower n = (k : ℕ) × (n ≡ 2 ^ k)

power_below : (k n : ℕ) → is_power_below k n ≡ true → IsPower n
power_below zero n e = absurd (cc)
power_below (suc k) n e = by (n == 2 ^ k) refl e (power_below k n)
  where
    by : (b : Bool) → (n == 2 ^ k) ≡ b → (b || is_power_below k n) ≡ true → (is_power_below k n ≡ true → IsPower n) → IsPower n
    by true is f rest = (k, eqb-true n (2 ^ k) is)
    by false is f rest = rest f

max_power : (n m : ℕ) → IsPower n → IsPower m → IsPower (max n m)
max_power n m p q = by (nat_le n m) refl
  where
    by : (b : Bool) → nat_le n m ≡ b → IsPower (max n m)
    by true e = (q.0, (let l : n ≤ m = leb-true n m e in let f : max n m ≡ m = omega arith in f) ∙ q.1)
    by false e = (p.0, (let l : m < n = leb-false n m e in let f : max n m ≡ n = omega arith in f) ∙ p.1)

power_some : (k : ℕ) → 1 ≤ 2 ^ k
power_some k = let l : 0 < 2 ^ k = pow_pos k in omega (arith, l)

-- of two powers of two the greater is a multiple of the other
pub power_multiple : (n m : ℕ) → IsPower n → IsPower m → n ≤ m → m % n ≡ 0
power_multiple n m (a, p) (b, q) less = by (nat_le a b) refl
  where
    by : (c : Bool) → nat_le a b ≡ c → m % n ≡ 0
    by true e =
        let l : a ≤ b = leb-true a b e in
        let split : b ≡ b - a + a = omega arith in
        ap (λ k. k % n) (q ∙ ap (λ k. 2 ^ k) split ∙ pow-add 2 (b - a) a ∙ ap (λ k. 2 ^ (b - a) * k) (sym p)) ∙ mul-mod_left (2 ^ (b - a)) n
    by false e =
        let l : b < a = leb-false a b e in
        let more : 2 ^ b < 2 ^ a = pow-lt l in
        absurd (omega (arith, p, q, more, less))

-- an alignment, if there is one, is a power of two
abbrev pub AlignsToPower : Option ℕ → Type 0
AlignsToPower None = ⊤
AlignsToPower (Some n) = IsPower n

if_power : (b : Bool) (n : ℕ) → (b ≡ true → IsPower n) → AlignsToPower (if b then Some n else None)
if_power true n h = h refl
if_power false n h = tt

power_aligned : (v : Value) → AlignsToPower (power_alignment v)
power_aligned (Constant k) = if_power (nat_lt k 13) (2 ^ k) (λ e. (k, refl))
power_aligned (Symbolic p at k) = tt
power_aligned (Difference p q k) = tt
power_aligned (Faulty c) = tt

byte_aligned : (v : Value) → AlignsToPower (byte_alignment v)
byte_aligned (Constant n) = if_power (is_power n && nat_le n greatest_alignment) n (λ e. power_below 63 n (and_parts (is_power n) (nat_le n greatest_alignment) e).0)
byte_aligned (Symbolic p at k) = tt
byte_aligned (Difference p q k) = tt
byte_aligned (Faulty c) = tt

form_aligned : (form : AlignmentForm) (v : Value) → AlignsToPower (alignment_as form v)
form_aligned As_power v = power_aligned v
form_aligned As_bytes v = byte_aligned v

contribution_aligned : (v : Expression → Value) (c : Contribution) → AlignsToPower (contribution_alignment v c)
contribution_aligned v (Alignment form number) = form_aligned form (v number)
contribution_aligned v _ = tt

pub directive_aligned : (v : Expression → Value) (d : Directive) → AlignsToPower (alignment_of v d)
directive_aligned v d = contribution_aligned v (contribution d)

-- the number that the multiple of its section is not to be below
abbrev pub least : Option ℕ → ℕ
least alignment = max 1 (or_none alignment)

least_power : (alignment : Option ℕ) → AlignsToPower alignment → IsPower (least alignment)
least_power None h = (0, refl)
least_power (Some n) h = max_power 1 n (0, refl) h

-- a section begins at a multiple of an alignment, if there is one
abbrev pub BeginsAt : Option ℕ → ℕ → Type 0
BeginsAt None begins = ⊤
BeginsAt (Some n) begins = (0 < n) × (begins % n ≡ 0)

begins_at : (alignment : Option ℕ) (begins : ℕ) → AlignsToPower alignment → IsPower begins → least alignment ≤ begins → BeginsAt alignment begins
begins_at None begins h p less = tt
begins_at (Some n) begins (k, e) p less =
    let some = power_some k in
    let below : n ≤ max 1 n = le-max_right 1 n in
    (omega (arith, e, some), power_multiple n begins (k, e) p (omega (arith, less, below)))

-- ---- numbers of each section

one_more : (ns : List ℕ) (d j : ℕ) → slice_index_or (ns ++ d ∷ []) j d ≡ slice_index_or ns j d
one_more [] d zero = refl
one_more [] d (suc zero) = refl
one_more [] d (suc (suc j)) = refl
one_more (n ∷ ns) d zero = refl
one_more (n ∷ ns) d (suc j) = one_more ns d j

-- one number more makes none less, and what is so of it and of the others is so of all
more_least : (ns : List ℕ) (n d j : ℕ) → d ≤ n → slice_index_or ns j d ≤ slice_index_or (ns ++ n ∷ []) j d
more_least [] n d zero least = least
more_least [] n d (suc j) least = omega arith
more_least (m ∷ ms) n d zero least = omega arith
more_least (m ∷ ms) n d (suc j) least = more_least ms n d j least

more_all : (P : ℕ → Type 0) (ns : List ℕ) (n d j : ℕ) → P n → P (slice_index_or ns j d) → P (slice_index_or (ns ++ n ∷ []) j d)
more_all P [] n d zero own others = own
more_all P [] n d (suc j) own others = others
more_all P (m ∷ ms) n d zero own others = others
more_all P (m ∷ ms) n d (suc j) own others = more_all P ms n d j own others

changed_here : (i : ℕ) (change : ℕ → ℕ) (ns : List ℕ) (d : ℕ) → i < length ns → slice_index_or (changed_at i change ns) i d ≡ change (slice_index_or ns i d)
changed_here i change [] d inside = absurd (omega arith)
changed_here zero change (n ∷ ns) d inside = refl
changed_here (suc i) change (n ∷ ns) d inside = changed_here i change ns d (omega arith)

-- a change that makes nothing less
changed_more : (i : ℕ) (change : ℕ → ℕ) (ns : List ℕ) (d j : ℕ) → ((n : ℕ) → n ≤ change n) → slice_index_or ns j d ≤ slice_index_or (changed_at i change ns) j d
changed_more i change [] d j more = omega arith
changed_more zero change (n ∷ ns) d zero more = more n
changed_more zero change (n ∷ ns) d (suc j) more = omega arith
changed_more (suc i) change (n ∷ ns) d zero more = omega arith
changed_more (suc i) change (n ∷ ns) d (suc j) more = changed_more i change ns d j more

abbrev pub ArePowers : List ℕ → Type 0
ArePowers ns = (j : ℕ) → IsPower (slice_index_or ns j 1)

changed_powers : (i : ℕ) (change : ℕ → ℕ) (ns : List ℕ) → ((n : ℕ) → IsPower n → IsPower (change n)) → ArePowers ns → ArePowers (changed_at i change ns)
changed_powers i change [] keeps h j = h j
changed_powers zero change (n ∷ ns) keeps h zero = keeps n (h 0)
changed_powers zero change (n ∷ ns) keeps h (suc j) = h (suc j)
changed_powers (suc i) change (n ∷ ns) keeps h zero = h 0
changed_powers (suc i) change (n ∷ ns) keeps h (suc j) = changed_powers i change ns keeps (λ k. h (suc k)) j

-- the alignments and the bytes of sections, one of which gets data
changed_alignments : (i bytes : ℕ) (alignment : Option ℕ) (es : List Extent)
    → map (λ (e : Extent). e.alignment) (changed_at i (extended bytes alignment) es) ≡ changed_at i (λ n. max n (least alignment)) (map (λ (e : Extent). e.alignment) es)
changed_alignments i bytes alignment [] = refl
changed_alignments zero bytes alignment (e ∷ es) = refl
changed_alignments (suc i) bytes alignment (e ∷ es) = ap (λ l. e.alignment ∷ l) (changed_alignments i bytes alignment es)

changed_ends : (i bytes : ℕ) (alignment : Option ℕ) (es : List Extent)
    → map (λ (e : Extent). e.bytes) (changed_at i (extended bytes alignment) es)
    ≡ changed_at i (λ n. n + counted_in (slice_index_or (map (λ (e : Extent). e.section) es) i text_section) bytes) (map (λ (e : Extent). e.bytes) es)
changed_ends i bytes alignment [] = refl
changed_ends zero bytes alignment (e ∷ es) = refl
changed_ends (suc i) bytes alignment (e ∷ es) = ap (λ l. e.bytes ∷ l) (changed_ends i bytes alignment es)

pub data_alignments : (t : Tables) (bytes : ℕ) (alignment : Option ℕ) → alignments_of (with_data t bytes alignment) ≡ changed_at t.current (λ n. max n (least alignment)) (alignments_of t)
data_alignments t bytes alignment = changed_alignments t.current bytes alignment t.extents

pub data_ends : (t : Tables) (bytes : ℕ) (alignment : Option ℕ) → ends_of (with_data t bytes alignment) ≡ changed_at t.current (λ n. n + counted_in (current_section (opened_of t)) bytes) (ends_of t)
data_ends t bytes alignment = changed_ends t.current bytes alignment t.extents

-- there are as many of both as sections
ends_count : (t : Tables) → length (ends_of t) ≡ length (opened_of t).sections
ends_count t = length-map t.extents (λ (e : Extent). e.bytes) ∙ sym (sections_count t)

alignments_count : (t : Tables) → length (alignments_of t) ≡ length (opened_of t).sections
alignments_count t = length-map t.extents (λ (e : Extent). e.alignment) ∙ sym (sections_count t)

-- ---- one statement

-- no section gets fewer bytes, or begins at a lower multiple; that is a power of two
pub record Grows (t u : Tables) : Type 0 where
  pub ends : (j : ℕ) → slice_index_or (ends_of t) j 0 ≤ slice_index_or (ends_of u) j 0
  pub alignments : (j : ℕ) → slice_index_or (alignments_of t) j 1 ≤ slice_index_or (alignments_of u) j 1
  pub powers : ArePowers (alignments_of t) → ArePowers (alignments_of u)

grows_same : (t u : Tables) → u.extents ≡ t.extents → Grows t u
grows_same t u same = record {
  ends = λ j. let f : slice_index_or (ends_of t) j 0 ≡ slice_index_or (ends_of u) j 0 = ap (λ l. slice_index_or (map (λ (e : Extent). e.bytes) l) j 0) (sym same) in omega (arith, f);
  alignments = λ j. let f : slice_index_or (alignments_of t) j 1 ≡ slice_index_or (alignments_of u) j 1 = ap (λ l. slice_index_or (map (λ (e : Extent). e.alignment) l) j 1) (sym same) in omega (arith, f);
  powers = λ h j. subst (λ l. IsPower (slice_index_or (map (λ (e : Extent). e.alignment) l) j 1)) (sym same) (h j);
}

grows_if : (b : Bool) (t u v : Tables) → Grows t u → Grows t v → Grows t (if b then u else v)
grows_if true t u v h k = h
grows_if false t u v h k = k

grows_then : (t u v : Tables) → Grows t u → Grows u v → Grows t v
grows_then t u v h k = record {
  ends = λ j. let f = h.ends j in let g = k.ends j in omega (arith, f, g);
  alignments = λ j. let f = h.alignments j in let g = k.alignments j in omega (arith, f, g);
  powers = λ p. k.powers (h.powers p);
}

grows_set : (t : Tables) (found : Option Assignment) → Grows t (with_assignment t found)
grows_set t None = grows_same t t refl
grows_set t (Some s) = grows_if (may_set t s.ordinal s.name s.meaning) t (record t { assignments = s ∷ t.assignments }) t (grows_same t (record t { assignments = s ∷ t.assignments }) refl) (grows_same t t refl)

-- a new section has no bytes, as one that isn't open, and its least alignment
pub end_new : (t : Tables) (s : Section) (j : ℕ) → slice_index_or (ends_of (with_new t s)) j 0 ≡ slice_index_or (ends_of t) j 0
end_new t s j = ap (λ l. slice_index_or l j 0) (map-append (λ (e : Extent). e.bytes) t.extents (empty_extent s ∷ [])) ∙ one_more (ends_of t) 0 j

alignments_new : (t : Tables) (s : Section) → alignments_of (with_new t s) ≡ alignments_of t ++ least_alignment s ∷ []
alignments_new t s = map-append (λ (e : Extent). e.alignment) t.extents (empty_extent s ∷ [])

pub alignment_new : (P : ℕ → Type 0) (t : Tables) (s : Section) (j : ℕ) → P 1 → P 2 → P (slice_index_or (alignments_of t) j 1) → P (slice_index_or (alignments_of (with_new t s)) j 1)
alignment_new P t s j one two others =
    subst (λ l. P (slice_index_or l j 1)) (sym (alignments_new t s)) (more_all P (alignments_of t) (least_alignment s) 1 j (own s.executable) others)
  where
    own : (b : Bool) → P (if b then 2 else 1)
    own true = two
    own false = one

least_some : (b : Bool) → 1 ≤ (if b then 2 else 1)
least_some true = omega arith
least_some false = omega arith

grows_new : (t : Tables) (s : Section) → Grows t (with_new t s)
grows_new t s = record {
  ends = λ j. let f = end_new t s j in omega (arith, f);
  alignments = λ j. subst (λ l. slice_index_or (alignments_of t) j 1 ≤ slice_index_or l j 1) (sym (alignments_new t s))
      (more_least (alignments_of t) (least_alignment s) 1 j (least_some s.executable));
  powers = λ h j. alignment_new IsPower t s j (0, refl) (1, refl) (h j);
}

grows_section : (t : Tables) (section : Option Section) → Grows t (with_section t section)
grows_section t None = grows_same t t refl
grows_section t (Some section) = entering (λ (u : Tables). Grows t u) t section (λ n at. grows_same t (record t { current = n }) refl) (λ room. grows_new t section) (grows_same t t refl)

grows_data : (t : Tables) (bytes : ℕ) (alignment : Option ℕ) → AlignsToPower alignment → Grows t (with_data t bytes alignment)
grows_data t bytes alignment power = record {
  ends = λ j. subst (λ l. slice_index_or (ends_of t) j 0 ≤ slice_index_or l j 0) (sym (data_ends t bytes alignment))
      (changed_more t.current (λ n. n + counted_in (current_section (opened_of t)) bytes) (ends_of t) 0 j (λ n. omega arith));
  alignments = λ j. subst (λ l. slice_index_or (alignments_of t) j 1 ≤ slice_index_or l j 1) (sym (data_alignments t bytes alignment))
      (changed_more t.current (λ n. max n (least alignment)) (alignments_of t) 1 j (λ n. le-max_left n (least alignment)));
  powers = λ h. subst ArePowers (sym (data_alignments t bytes alignment))
      (changed_powers t.current (λ n. max n (least alignment)) (alignments_of t) (λ n p. max_power n (least alignment) p (least_power alignment power)) h);
}

grows_contribution : (t : Tables) (v : Expression → Value) (c : Contribution) → Grows t (with_contribution t v c)
grows_contribution t v Nothing = grows_same t t refl
grows_contribution t v (Bytes contents) = grows_data t (contributed v (here t).offset (Bytes contents)) None tt
grows_contribution t v (Alignment form number) =
    grows_data t (contributed v (here t).offset (Alignment form number)) (alignment_as form (v number)) (form_aligned form (v number))

grows_choice : (t : Tables) (choice : Choice) → Grows t (with_choice t choice)
grows_choice t choice = grows_same t (with_choice t choice) refl

grows_chosen : (t : Tables) (found : Option Choice) → Grows t (with_chosen t found)
grows_chosen t None = grows_same t t refl
grows_chosen t (Some choice) = grows_choice t choice

grows_directive : (t : Tables) (o : ℕ) (d : Directive) → Grows t (after_directive t o d)
grows_directive t o d =
    let v : Expression → Value = value_by_tables t false o (here t) in
    let entered = with_section t (entered_by d) in
    let named = with_assignment entered (assigned_by v o d) in
    let chose = with_chosen named (choice_in d) in
    let contributed = with_contribution chose v (contribution d) in
    grows_then t chose contributed
    (grows_then t named chose (grows_then t entered named (grows_section t (entered_by d)) (grows_set entered (assigned_by v o d))) (grows_chosen named (choice_in d)))
    (grows_contribution chose v (contribution d))

pub grows_after : (t : Tables) (o : ℕ) (says : StatementKind) → Grows t (after t o says)
grows_after t o (Label name) =
    let u : Tables = record t { labels = t.labels ++ record { name = name; ordinal = o; place = here t } ∷ [] } in
    grows_if (is_defined t o name) t t u (grows_same t t refl) (grows_same t u refl)
grows_after t o (Numbered number) = grows_same t (with_numeric_label t o number) refl
grows_after t o (Instruction mnemonic operands) = grows_same t t refl
grows_after t o (Directs d) = grows_directive t o d

pub grows_all : (t : Tables) (o : ℕ) (ss : List Statement) → Grows t (after_all t o ss)
grows_all t o [] = grows_same t t refl
grows_all t o (s ∷ ss) = grows_then t (after t o s.kind) (after_all (after t o s.kind) (suc o) ss) (grows_after t o s.kind) (grows_all (after t o s.kind) (suc o) ss)

start_powers : (all : List Statement) (j : ℕ) → IsPower (slice_index_or (alignments_of (at_start all)) j 1)
start_powers all zero = (1, refl)
start_powers all (suc zero) = (0, refl)
start_powers all (suc (suc j)) = (0, refl)

pub grown_all : (all : List Statement) (o : ℕ) (ss : List Statement) → ArePowers (alignments_of (after_all (at_start all) o ss))
grown_all all o ss = (grows_all (at_start all) o ss).powers (start_powers all)

-- ---- what a directive contributes to its section

abbrev IsPut : Tables → ℕ → Directive → Type 0
IsPut t o d =
    let v = value_by_tables t false o (here t) in
    after_directive t o d ≡ with_data t (data_bytes v (here t).offset d) (alignment_of v d)

put_end : (t : Tables) (o : ℕ) (d : Directive) → IsPut t o d → t.current < length (ends_of t)
    → slice_index_or (ends_of (after_directive t o d)) t.current 0
    ≡ (here t).offset + counted_in (current_section (opened_of t)) (data_bytes (value_by_tables t false o (here t)) (here t).offset d)
put_end t o d is inside =
    ap (λ (u : Tables). slice_index_or (ends_of u) t.current 0) is
    ∙ ap (λ l. slice_index_or l t.current 0) (data_ends t (data_bytes (value_by_tables t false o (here t)) (here t).offset d) (alignment_of (value_by_tables t false o (here t)) d))
    ∙ changed_here t.current (λ n. n + counted_in (current_section (opened_of t)) (data_bytes (value_by_tables t false o (here t)) (here t).offset d)) (ends_of t) 0 inside

put_alignment : (t : Tables) (o : ℕ) (d : Directive) → IsPut t o d → t.current < length (alignments_of t)
    → slice_index_or (alignments_of (after_directive t o d)) t.current 1 ≡ max (slice_index_or (alignments_of t) t.current 1) (max 1 (or_none (alignment_of (value_by_tables t false o (here t)) d)))
put_alignment t o d is inside =
    ap (λ (u : Tables). slice_index_or (alignments_of u) t.current 1) is
    ∙ ap (λ l. slice_index_or l t.current 1) (data_alignments t (data_bytes (value_by_tables t false o (here t)) (here t).offset d) (alignment_of (value_by_tables t false o (here t)) d))
    ∙ changed_here t.current (λ n. max n (max 1 (or_none (alignment_of (value_by_tables t false o (here t)) d)))) (alignments_of t) 1 inside

-- the directives that contribute something
abbrev contributes : Contribution → Bool
contributes Nothing = false
contributes _ = true

abbrev pub puts : Directive → Bool
puts d = contributes (contribution d)

is_put : (t : Tables) (o : ℕ) (d : Directive) → puts d ≡ true → IsPut t o d
is_put t o (Aligns form e) h = refl
is_put t o (Emits contents) h = refl
is_put t o _ h = absurd (cc)

-- the end of a section of data after a directive that contributes to it
pub end_behind : (t : Tables) (o : ℕ) (d : Directive) → puts d ≡ true → t.current < length (opened_of t).sections → (current_section (opened_of t)).executable ≡ false
    → slice_index_or (ends_of (after t o (Directs d))) t.current 0 ≡ (here t).offset + data_bytes (value_by_tables t false o (here t)) (here t).offset d
end_behind t o d h inside stored =
    let bytes = data_bytes (value_by_tables t false o (here t)) (here t).offset d in
    put_end t o d (is_put t o d h) (subst (λ n. t.current < n) (sym (ends_count t)) inside)
    ∙ ap (λ b. (here t).offset + (if b then 0 else bytes)) stored

-- in the end the alignment of its section is a multiple of the directive's own
pub begins_multiple : (t : Tables) (o k : ℕ) (d : Directive) (ss : List Statement) → puts d ≡ true → ArePowers (alignments_of t) → t.current < length (opened_of t).sections
    → BeginsAt (alignment_of (value_by_tables t false o (here t)) d) (slice_index_or (alignments_of (after_all (after t o (Directs d)) k ss)) t.current 1)
begins_multiple t o k d ss h powers inside =
    let alignment = alignment_of (value_by_tables t false o (here t)) d in
    let before = slice_index_or (alignments_of t) t.current 1 in
    let last = slice_index_or (alignments_of (after_all (after t o (Directs d)) k ss)) t.current 1 in
    let now = grows_after t o (Directs d) in
    let later = grows_all (after t o (Directs d)) k ss in
    let asks = put_alignment t o d (is_put t o d h) (subst (λ n. t.current < n) (sym (alignments_count t)) inside) in
    let grown : slice_index_or (alignments_of (after_directive t o d)) t.current 1 ≤ last = later.alignments t.current in
    let below : least alignment ≤ max before (least alignment) = le-max_right before (least alignment) in
    begins_at alignment last (directive_aligned (value_by_tables t false o (here t)) d) (later.powers (now.powers powers) t.current) (omega (arith, asks, grown, below))
