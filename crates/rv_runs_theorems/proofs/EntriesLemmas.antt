-- Entries of statements, one after another.

use Rattle.std.proofs.Common.{◌≡◌, ℕ, Bool, true, false, List, [], ◌∷◌, length, map, flat_map, filter, drop, refl, ap, arith, None}
use Rattle.std.specs.Prelude.{if◌then◌else◌}
use Rattle.std.specs.List.{AllByRecursion}
use Rattle.rv_map_laws.specs.declared.map.Row.{Row}
use Rattle.rv_source_laws.specs.Located.{Located, has_row}
use Rattle.rv_source_laws.specs.Program.{Mapped, Program, first_of, mapped_statements, mapped_of}
use Rattle.rv_chain_laws.specs.SourceListing.{IsEntry, AreEntries}

-- ---- the rows of the statements that have one are those of the map

pub rows_by : (ts : List Located) (rows : List Row) → length rows ≡ length (filter has_row ts) → map (λ (s : Mapped). s.row) (mapped_of (mapped_statements ts rows)) ≡ rows
rows_by [] [] same = refl
rows_by [] (row ∷ rows) same = absurd (cc)
rows_by (t ∷ ts) rows same = go (has_row t) rows (rows_by ts) same
  where
    go : (b : Bool) (rows : List Row) → ((rs : List Row) → length rs ≡ length (filter has_row ts) → map (λ (s : Mapped). s.row) (mapped_of (mapped_statements ts rs)) ≡ rs) → length rows ≡ length (if b then t ∷ filter has_row ts else filter has_row ts)
        → map (λ (s : Mapped). s.row) (mapped_of (if b then record { located = t; row = first_of rows } ∷ mapped_statements ts (drop 1 rows) else record { located = t; row = None } ∷ mapped_statements ts rows)) ≡ rows
    go true [] others none = absurd (cc)
    go true (row ∷ more) others long = ap (λ (rs : List Row). row ∷ rs) (others more (let e : length more ≡ length (filter has_row ts) = omega (arith, long) in e))
    go false rows others long = others rows long

-- ---- texts

pub entries_of : (p : Program) (f : Mapped → List ℕ) (ss : List Mapped) → AllByRecursion (λ s. IsEntry p s (f s)) ss → AreEntries p ss (flat_map f ss)
entries_of p f [] h = refl
entries_of p f (s ∷ ss) (h, hs) = (f s, (flat_map f ss, refl, h, entries_of p f ss hs))
