-- The statements of a raw listing where they stand: in one section of code, without compression, with one label, which is global.

use Rattle.std.proofs.Common.{◌≡◌, ℕ, suc, ◌+◌, ◌⊎◌, Bool, true, false, List, [], ◌∷◌, ◌++◌, map, append-nil, refl, sym, ◌∙◌, ap, subst, inl, inr}
use Rattle.std.specs.List.{AllByRecursion}
use Rattle.rv_isa.specs.declared.instruction.Format.{Format}
use Rattle.rv_isa.specs.declared.instruction.Format.TheVariants.{Fence}
use Rattle.rv_isa.specs.Operations.{format_of}
use Rattle.std.specs.Prelude.{if◌then◌else◌}
use Rattle.rv_expression_laws.specs.Expression.{Here}
use Rattle.rv_expression_laws.specs.Values.{Open}
use Rattle.rv_statement_laws.specs.declared.directive.Binding.{Binding}
use Rattle.rv_statement_laws.specs.declared.directive.Binding.TheVariants.{Global}
use Rattle.rv_statement_laws.specs.declared.directive.Choice.{Choice}
use Rattle.rv_statement_laws.specs.declared.directive.Choice.TheVariants.{Norvc, Norelax}
use Rattle.rv_statement_laws.specs.declared.mnemonic.Mnemonic.{Mnemonic}
use Rattle.rv_statement_laws.specs.declared.mnemonic.Mnemonic.TheVariants as words
use Rattle.rv_statement_laws.specs.Statement.{StatementKind, Label, Instruction, Directs, Chooses, Binds, Operand, Accesses}
use Rattle.rv_unit_laws.specs.Bindings.{Bindings, all_local, bound, bound_by, bindings_after, bindings_of}
use Rattle.rv_unit_laws.specs.Options.{Options}
use Rattle.rv_unit_laws.specs.Sections.{text_section}
use Rattle.rv_unit_laws.specs.Tables.{Tables, Labelled, empty_extent, at_start, after, after_all, tables, opened_of, meaning, stands}
use Rattle.rv_source_laws.specs.Located.{Located, located_now, located_from}
use Rattle.rv_source_laws.specs.Program.{place_of}
use Rattle.rv_listing_laws.specs.declared.code.Code.{Code}
use Rattle.rv_listing_laws.specs.declared.code.Code.TheVariants.{Word, Parcel}
use Rattle.rv_listing_laws.specs.Instruction.{is_tso}
use Rattle.rv_listing_laws.specs.Raw.{IsSourced}
use Rattle.rv_raw_theorems.specs.Statements.{access_set, word_statement, code_statement, on_lines}
use Rattle.rv_raw_theorems.specs.Listed.{listed}
pub use Rattle.rv_link_laws.proofs.EntryLemmas.{start_name}

-- ---- instructions

pub record IsInstruction (kind : StatementKind) : Type 0 where
  pub mnemonic : Mnemonic
  pub operands : List Operand
  pub is : kind ≡ Instruction mnemonic operands

it : (m : Mnemonic) (os : List Operand) → IsInstruction (Instruction m os)
it m os = record { mnemonic = m; operands = os; is = refl }

pub word_instruction : (f : Format) → IsInstruction (word_statement f)
word_instruction (Fence x) = by (is_tso x)
  where
    by : (b : Bool) → IsInstruction (if b then Instruction words.FenceTso [] else Instruction words.Fence (Accesses (access_set x.pred) ∷ Accesses (access_set x.succ) ∷ []))
    by true = it _ _
    by false = it _ _
word_instruction _ = it _ _

pub code_instruction : (c : Code) → IsInstruction (code_statement c)
code_instruction (Word i) = word_instruction (format_of i)
code_instruction (Parcel f) = it _ _

-- ---- tables

abbrev pub raw_options : Options
raw_options = record { rvc = false; relax = false }

abbrev pub table : List Labelled → Options → Bindings → Tables
table labels options bindings = record {
  extents = empty_extent text_section ∷ [];
  current = 0;
  labels = labels;
  numeric_labels = [];
  assignments = [];
  options = options;
  kept = [];
  bindings = bindings;
}

abbrev pub entry_label : ℕ → Labelled
entry_label ordinal = record { name = start_name; ordinal = ordinal; place = record { section = 0; offset = 0 } }

pub after_code : (t : Tables) (n : ℕ) (c : Code) → after t n (code_statement c) ≡ t
after_code t n c = ap (after t n) (code_instruction c).is

-- the tables behind some code, wherever that is
after_codes : (t : Tables) (n line : ℕ) (cs : List Code) (rest : List StatementKind)
    → (m at : ℕ) × (after_all t n (on_lines line (map code_statement cs ++ rest)) ≡ after_all t m (on_lines at rest))
after_codes t n line [] rest = (n, line, refl)
after_codes t n line (c ∷ cs) rest =
    let (m, at, e) = after_codes t (suc n) (line + 1) cs rest in
    (m, at, ap (λ u. after_all u (suc n) (on_lines (line + 1) (map code_statement cs ++ rest))) (after_code t n c) ∙ e)

codes_last : (cs : List Code) → map code_statement cs ++ [] ≡ map code_statement cs
codes_last cs = append-nil (map code_statement cs)

pub table_is : (before after : List Code) → (n : ℕ) × (tables (listed before after) ≡ table (entry_label n ∷ []) raw_options (bindings_of (listed before after)))
table_is before after =
    let b = bindings_of (listed before after) in
    let (n, at, e) = after_codes (table [] raw_options b) 4 4 before (Label start_name ∷ map code_statement after) in
    let (m, line, f) = after_codes (table (entry_label n ∷ []) raw_options b) (suc n) (at + 1) after [] in
    (n, e ∙ ap (λ ks. after_all (table (entry_label n ∷ []) raw_options b) (suc n) (on_lines (at + 1) ks)) (sym (codes_last after)) ∙ f)

-- ---- the binding of the entry

bound_codes : (line : ℕ) (cs : List Code) (rest : List StatementKind) (b : Bindings) → (at : ℕ) × (bindings_after (on_lines line (map code_statement cs ++ rest)) b ≡ bindings_after (on_lines at rest) b)
bound_codes line [] rest b = (line, refl)
bound_codes line (c ∷ cs) rest b =
    let (at, e) = bound_codes (line + 1) cs rest b in
    (at, ap (λ k. bindings_after (on_lines (line + 1) (map code_statement cs ++ rest)) (bound_by k b)) (code_instruction c).is ∙ e)

pub entry_is_global : (before after : List Code) → bindings_of (listed before after) start_name ≡ Global
entry_is_global before after =
    let b = bound Global (start_name ∷ []) all_local in
    let (n, e) = bound_codes 4 before (Label start_name ∷ map code_statement after) b in
    let (m, f) = bound_codes (n + 1) after [] b in
    ap (λ (g : Bindings). g start_name) (e ∙ ap (λ ks. bindings_after (on_lines (n + 1) ks) b) (sym (codes_last after)) ∙ f)

-- ---- statements

-- a label or a directive that says no bytes
abbrev pub IsHead : StatementKind → Type 0
IsHead kind =
    (kind ≡ Label start_name) ⊎ (((choice : Choice) × (kind ≡ Directs (Chooses choice))) ⊎ ((binding : Binding) × ((names : List (List ℕ)) × (kind ≡ Directs (Binds binding names)))))

pub record IsOfCode (s : Located) : Type 0 where
  pub code : Code
  pub sourced : IsSourced code
  pub kind : s.kind ≡ code_statement code
  pub rvc : s.options.rvc ≡ false
  pub placed : s.placed ≡ true

pub record IsPlain (s : Located) : Type 0 where
  pub section : s.section ≡ 0
  pub offset : s.offset ≡ 0
  pub home : s.home ≡ text_section
  pub says : IsOfCode s ⊎ IsHead s.kind

abbrev pub ArePlain : List Located → Type 0
ArePlain ls = AllByRecursion IsPlain ls

module _ (labels : List Labelled) (b : Bindings) where
  abbrev t : Tables
  t = table labels raw_options b

  code_plain : (n line : ℕ) (c : Code) → IsSourced c → IsPlain (located_now 1 n t (record { line = line; kind = code_statement c }))
  code_plain n line c said =
      let i = code_instruction c in
      subst (λ k. IsPlain (located_now 1 n t (record { line = line; kind = k }))) (sym i.is)
      (record { section = refl; offset = refl; home = refl; says = inl (record { code = c; sourced = said; kind = sym i.is; rvc = refl; placed = refl }) })

  codes_plain : (n line : ℕ) (cs : List Code) (rest : List StatementKind) → AllByRecursion IsSourced cs → ((m at : ℕ) → ArePlain (located_from 1 m t (on_lines at rest)))
      → ArePlain (located_from 1 n t (on_lines line (map code_statement cs ++ rest)))
  codes_plain n line [] rest said more = more n line
  codes_plain n line (c ∷ cs) rest (one, said) more = (
    code_plain n line c one,
    subst (λ u. ArePlain (located_from 1 (suc n) u (on_lines (line + 1) (map code_statement cs ++ rest)))) (sym (after_code t n c)) (codes_plain (suc n) (line + 1) cs rest said more),
  )

split_said : (before after : List Code) → AllByRecursion IsSourced (before ++ after) → AllByRecursion IsSourced before × AllByRecursion IsSourced after
split_said [] after h = (tt, h)
split_said (c ∷ before) after (one, h) = let (front, back) = split_said before after h in ((one, front), back)

pub all_plain : (before after : List Code) → AllByRecursion IsSourced (before ++ after) → ArePlain (located_from 1 1 (at_start (listed before after)) (listed before after))
all_plain before after said = (
  record { section = refl; offset = refl; home = refl; says = inr (inr (inl (Norvc, refl))) },
  (
    record { section = refl; offset = refl; home = refl; says = inr (inr (inl (Norelax, refl))) },
    (
      record { section = refl; offset = refl; home = refl; says = inr (inr (inr (Global, (start_name ∷ [], refl)))) },
      codes_plain [] b 4 4 before (Label start_name ∷ map code_statement after) parts.0 behind,
    ),
  ),
)
  where
    b : Bindings
    b = bindings_of (listed before after)

    parts : AllByRecursion IsSourced before × AllByRecursion IsSourced after
    parts = split_said before after said

    behind : (m at : ℕ) → ArePlain (located_from 1 m (table [] raw_options b) (on_lines at (Label start_name ∷ map code_statement after)))
    behind m at = (
      record { section = refl; offset = refl; home = refl; says = inr (inl refl) },
      subst (λ ks. ArePlain (located_from 1 (suc m) (table (entry_label m ∷ []) raw_options b) (on_lines (at + 1) ks))) (codes_last after)
          (codes_plain (entry_label m ∷ []) b (suc m) (at + 1) after [] parts.1 (λ q line. tt)),
    )

-- ---- what stands in them

-- `.` has no known place in code
pub here_is : (labels : List Labelled) (b : Bindings) (s : Located) → s.section ≡ 0 → meaning (table labels raw_options b) true s.ordinal (place_of s) Here ≡ Open
here_is labels b s e = ap (λ n. stands (opened_of (table labels raw_options b)) (record { section = n; offset = s.offset })) e
