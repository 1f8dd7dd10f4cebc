-- What a statement counts among the sizes of its source, by the bytes that it has after the linker's moves: those, but an alignment in
-- code all the padding that it may need.

use Rattle.std.proofs.Common.{◌≡◌, ℕ, ◌+◌, ◌-◌, ◌%◌, ◌<◌, Bool, true, false, List, [], ◌∷◌, length, refl, sym, ap, ◌∙◌, subst, Option, inl, inr}
use Rattle.std.specs.Prelude.{if◌then◌else◌, flat_map, map}
use Rattle.std.specs.List.{AllByRecursion}
use Rattle.rv_statement_laws.specs.Statement.{StatementKind, Expression, Label, Numbered, Instruction, Directs, Enters, Opens, Binds, Sets, Chooses, Ignored, Aligns, Emits}
use Rattle.rv_expression_laws.specs.Values.{Value}
use Rattle.rv_unit_laws.specs.Contributions.{contribution}
use Rattle.rv_unit_laws.specs.Sections.{Section as SourceSection}
use Rattle.rv_unit_laws.specs.Tables.{Tables, alignment_of}
use Rattle.rv_source_laws.specs.Sizes.{code_padding}
use Rattle.rv_source_laws.specs.Sized.{directive_size}
use Rattle.rv_link_laws.specs.Moves.{Move, new_offset}
use Rattle.rv_assemble_laws.specs.Templates.{Coded, align_field, padding_templates}
use Rattle.rv_object_laws.specs.Padding.{no_operations}
use Rattle.rv_assemble_laws.specs.LaidStatements.{LaidStatement, expression_value, laid_part, part_bytes, HasSize, IsPaddedIn}
use Rattle.rv_sources_link_theorems.proofs.sections.AssembledLemmas.{parts_of, assembled_templates, Tile}
use Rattle.rv_assemble_laws.specs.IsObjectOf.{Numbering}
use Rattle.rv_assemble_laws.proofs.DataTemplatesLemmas.{each_datum}
use Rattle.rv_sources_link_theorems.proofs.statements.SettledLemmas.{IsBare, IsLaidIn}
use Rattle.rv_sources_link_theorems.proofs.statements.FieldedLemmas.{IsPlain, sized_each, plain_part}
use Rattle.rv_sources_link_theorems.proofs.moves.ShrunkLemmas as shrunk
use Rattle.rv_sources_link_theorems.proofs.moves.SteppedLemmas.{Steps}

-- the bytes after the moves
abbrev pub bytes_with : List Move → LaidStatement → ℕ
bytes_with ms z = new_offset ms (z.offset + z.bytes) - new_offset ms z.offset

-- those of a statement without an alignment stay
abbrev pub StaysBy : Tables → List Move → LaidStatement → StatementKind → Type 0
StaysBy t ms z kind = AllByRecursion IsPlain (assembled_templates t z kind) → bytes_with ms z ≡ z.bytes

abbrev pub Stays : Tables → List Move → LaidStatement → Type 0
Stays t ms z = StaysBy t ms z z.located.kind

-- the size of a statement by what is left of it: an alignment in code has all its padding
abbrev pub size_before : Bool → (Expression → Value) → StatementKind → ℕ → ℕ
size_before executable v (Directs d) bytes = directive_size executable v d (contribution d) bytes
size_before executable v _ bytes = bytes

-- what it counts
abbrev pub Size : Tables → List Move → LaidStatement → StatementKind → Type 0
Size t ms z kind = z.bytes ≡ size_before z.located.home.executable (expression_value t z.located) kind (bytes_with ms z)

pub record IsCounted (t : Tables) (ms : List Move) (z : LaidStatement) : Type 0 where
  pub placed : z.located.placed ≡ true → Size t ms z z.located.kind
  pub unplaced : z.located.placed ≡ false → z.bytes ≡ 0

-- ---- a statement with a place

module _ (t : Tables) (ms : List Move) (z : LaidStatement) (multiple : ℕ) where
  align_by : (x : Bool) (al : Option ℕ) → IsPaddedIn x z al → (AllByRecursion IsPlain (padding_templates x z.located.ordinal z.bytes) → bytes_with ms z ≡ z.bytes)
      → z.bytes ≡ (if x then code_padding al else bytes_with ms z)
  align_by true al size stays = size.0
  align_by false al size stays = sym (stays (tt, tt))

  counts : (kind : StatementKind) → HasSize (expression_value t z.located) z multiple kind → StaysBy t ms z kind → Size t ms z kind
  counts (Label name) size stays = sym (stays tt)
  counts (Numbered number) size stays = sym (stays tt)
  counts (Instruction m os) size stays =
      sym (stays (sized_each IsPlain (λ bytes. tt) (λ width value. tt) t z multiple (plain_part t (expression_value t z.located) z.located) (Instruction m os) size))
  counts (Directs (Aligns form e)) size stays = align_by z.located.home.executable (alignment_of (expression_value t z.located) (Aligns form e)) size.2 stays
  counts (Directs (Emits contents)) size stays = sym (stays (each_datum IsPlain (λ bytes. tt) (λ width value. tt) (expression_value t z.located) contents z.bytes))
  counts (Directs (Enters opened)) size stays = sym (stays tt)
  counts (Directs (Opens name flags k)) size stays = sym (stays tt)
  counts (Directs (Binds binding names)) size stays = sym (stays tt)
  counts (Directs (Sets name e)) size stays = sym (stays tt)
  counts (Directs (Chooses choice)) size stays = sym (stays tt)
  counts (Directs Ignored) size stays = sym (stays tt)

-- ---- one without

-- what has no templates after the moves has none before
bare_before : (t : Tables) (z : LaidStatement) (kind : StatementKind) → ((y : LaidStatement) → shrunk.shrunk_templates t y kind ≡ []) → assembled_templates t z kind ≡ []
bare_before t z (Label name) h = refl
bare_before t z (Numbered number) h = refl
bare_before t z (Instruction m os) h = h z
bare_before t z (Directs (Emits contents)) h = h z
bare_before t z (Directs (Aligns form e)) h = absurd (never z.located.home.executable (h (record z { bytes = 1 })))
  where
    never : (b : Bool) → shrunk.padding_templates b 1 ≡ [] → ⊥
    never true e = absurd (cc)
    never false e = absurd (cc)
bare_before t z (Directs (Sets name e)) h = refl
bare_before t z (Directs _) h = refl

none_there : (t : Tables) (z : LaidStatement) → IsBare z.located → z.bytes ≡ length (flat_map part_bytes (parts_of t z)) → z.located.placed ≡ false → z.bytes ≡ 0
none_there t z bare bytes e =
    bytes ∙ ap (λ l. length (flat_map part_bytes (map (laid_part z.located.ordinal) l))) (bare_before t z z.located.kind (bare e t))

-- ---- the statements of a section

pub counted_all : (t : Tables) (ms : List Move) (j : ℕ) (s : SourceSection) (multiple o : ℕ) (zs : List LaidStatement) → AllByRecursion (IsLaidIn j s) zs → Tile t o zs
    → AllByRecursion (λ z. z.located.placed ≡ true → HasSize (expression_value t z.located) z multiple z.located.kind) zs → AllByRecursion (Stays t ms) zs → AllByRecursion (IsCounted t ms) zs
counted_all t ms j s multiple o [] i tile size stays = tt
counted_all t ms j s multiple o (z ∷ zs) (i, is) (off, bytes, tile) (size, sizes) (stays, more) = (
  record { placed = λ e. counts t ms z multiple z.located.kind (size e) stays; unplaced = none_there t z i.bare bytes },
  counted_all t ms j s multiple (o + z.bytes) zs is tile sizes more,
)

-- where the linker moves them
module _ (t : Tables) (number : Numbering) (section : SourceSection) (multiple : ℕ) (start : ℕ) (ms : List Move)
    (begins : (m : ℕ) → 0 < m → multiple % m ≡ 0 → section.executable ≡ true → start % m ≡ 0) where
  pub bytes_stay : (o gone : ℕ) (zs : List LaidStatement) → Steps t number section multiple start ms begins o gone zs → AllByRecursion (Stays t ms) zs
  bytes_stay o gone [] st = tt
  bytes_stay o gone (z ∷ zs) (off, bytes, low, evens, inl (s, st)) = ((λ none. ap (λ (y : LaidStatement). y.bytes) s.plain_is), bytes_stay (o + z.bytes) gone zs st)
  bytes_stay o gone (z ∷ zs) (off, bytes, low, evens, inr (s, st)) =
      ((λ none. never (subst (λ l. AllByRecursion IsPlain l) s.pad_kind.was none)), bytes_stay (o + z.bytes) (gone + (z.bytes - s.least)) zs st)
    where
      never : AllByRecursion IsPlain (Coded (no_operations z.bytes) (align_field z.located.ordinal z.bytes ∷ []) ∷ []) → bytes_with ms z ≡ z.bytes
      never ((e, more), rest) = absurd (cc)
