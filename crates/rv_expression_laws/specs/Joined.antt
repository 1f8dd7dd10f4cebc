-- Names in which `-` may stand after the first byte, as those of sections (GNU as, ".section"): a
-- name, and then words and minus signs without a gap between.

use Rattle.std.specs.Prelude.{◌≡◌, ℕ, ◌==◌, List, [], ◌∷◌, ◌++◌, Option, Some, None, option_map, codes, if◌then◌else◌}
use Rattle.rv_expression_laws.specs.declared.punct.Punct.TheVariants.{Minus}
use Rattle.rv_expression_laws.specs.Grammar.{Kind, Name, Number, Reference, Bad_word, Punctuation, direction}
use Rattle.rv_expression_laws.specs.Lexing.{Token}

-- the bytes of a token that such a name may have after its first
abbrev pub joined_bytes : Kind → Option (List ℕ)
joined_bytes (Name name) = Some name
joined_bytes (Number word number) = Some word
joined_bytes (Reference digits forward) = Some (digits ++ direction forward ∷ [])
joined_bytes (Bad_word word) = Some word
joined_bytes (Punctuation Minus) = Some (codes "-")
joined_bytes _ = None

-- the tokens stand one right after the other from this offset on, and these are their bytes
abbrev pub AreAfter : ℕ → List Token → List ℕ → Type 0
AreAfter offset [] bytes = bytes ≡ []
AreAfter offset (t ∷ ts) bytes =
    (t.start ≡ offset) × (first rest : List ℕ) × (joined_bytes t.kind ≡ Some first)
    × (bytes ≡ first ++ rest) × AreAfter t.stop ts rest

-- the tokens are this name
abbrev pub IsJoined : List Token → List ℕ → Type 0
IsJoined [] name = ⊥
IsJoined (t ∷ ts) name =
    (first rest : List ℕ) × (t.kind ≡ Name first) × (name ≡ first ++ rest) × AreAfter t.stop ts rest

-- the tokens are this name, as long as it can be, and then the rest
pub record ReadsJoined (ts : List Token) (name : List ℕ) (rest : List Token) : Type 0 where
  pub tokens : List Token
  pub whole : ts ≡ tokens ++ rest
  pub joined : IsJoined tokens name
  pub longest : (t : Token) (us : List Token) (longer : List ℕ) → rest ≡ t ∷ us →
      IsJoined (tokens ++ t ∷ []) longer → ⊥

-- the bytes of a token that goes on with a name up to this offset
abbrev pub joins : ℕ → Token → Option (List ℕ)
joins offset t = if t.start == offset then joined_bytes t.kind else None

-- what goes on with a name up to this offset, and the tokens after it
abbrev pub joined_after : ℕ → List Token → List ℕ × List Token
joined_after offset [] = ([], [])
joined_after offset (t ∷ ts) = elim (joins offset t) [
  | None ↦ ([], t ∷ ts)
  | Some bytes ↦ let after = joined_after t.stop ts in (bytes ++ after.0, after.1)
]

abbrev pub first_name : Kind → Option (List ℕ)
first_name (Name name) = Some name
first_name _ = None

-- the name at the front of tokens, and the tokens after it
unfoldable pub joined_at : List Token → Option (List ℕ × List Token)
joined_at [] = None
joined_at (t ∷ ts) =
    option_map (λ name. let after = joined_after t.stop ts in (name ++ after.0, after.1))
    (first_name t.kind)
