-- The alignments of a section, as they have moved where calls are cut short.

use Rattle.std.proofs.Common.{◌≡◌, ℕ, ◌+◌, ◌<◌, Bool, true, false, cond, ◌&&◌, nat_lt, List, [], ◌∷◌, ◌++◌, length, map, drop, slice_index_or, refl, sym, ap, ◌∙◌}
use Rattle.std.specs.List.{filter}
use Rattle.std.proofs.lemmas.List.{append_assoc, drop_more}
use Rattle.rv_object_types.specs.declared.relocation.Relocation.{Relocation as DeclaredRelocation}
use Rattle.rv_object_laws.specs.Object.{Relocation}
use Rattle.rv_object_types.specs.Parts.{relocation_of, zeros_relocation}
use Rattle.rv_link_laws.specs.Moves.{Move, full_padding, has_padding}
use Rattle.rv_cut_laws.specs.Cutting.{cut_relocation}
use Rattle.rv_cut_laws.proofs.PaddingsLemmas.{align_stays}

-- what has padding keeps it
pub has_padding_still : (ms : List Move) (r : Relocation) → has_padding (cut_relocation ms r) ≡ has_padding r
has_padding_still ms r = ap (λ b. b && nat_lt 0 (full_padding r)) (align_stays ms r)

-- ---- one more relocation

abbrev pub with_one : List Relocation → Relocation → List Relocation
with_one found r = cond (has_padding r) (found ++ r ∷ []) found

pub not_put : (ms : List Move) (r : Relocation) (found : List Relocation) → has_padding r ≡ false → found ≡ with_one found (cut_relocation ms r)
not_put ms r found without =
    sym (ap (λ b. cond b (found ++ cut_relocation ms r ∷ []) found) (has_padding_still ms r ∙ without))

pub one_put : (ms : List Move) (r : Relocation) (found : List Relocation) → has_padding r ≡ true → found ++ cut_relocation ms r ∷ [] ≡ with_one found (cut_relocation ms r)
one_put ms r found with_padding =
    sym (ap (λ b. cond b (found ++ cut_relocation ms r ∷ []) found) (has_padding_still ms r ∙ with_padding))

-- those of relocations, as they have moved
abbrev pub padded_of : List Move → List DeclaredRelocation → List Relocation
padded_of ms rs = filter has_padding (map (cut_relocation ms) (map relocation_of rs))

put_first : (b : Bool) (r : Relocation) (found more : List Relocation) → cond b (found ++ r ∷ []) found ++ more ≡ found ++ cond b (r ∷ more) more
put_first true r found more = append_assoc found (r ∷ []) more
put_first false r found more = refl

pub found_more : (ms : List Move) (rs : List DeclaredRelocation) (i : ℕ) (found new whole : List Relocation) → i < length rs → new ≡ with_one found (cut_relocation ms (relocation_of (slice_index_or rs i zeros_relocation)))
    → found ++ padded_of ms (drop i rs) ≡ whole → new ++ padded_of ms (drop (i + 1) rs) ≡ whole
found_more ms rs i found new whole inside is so_far =
    let r = cut_relocation ms (relocation_of (slice_index_or rs i zeros_relocation)) in
    let more = padded_of ms (drop (i + 1) rs) in
    ap (λ l. l ++ more) is ∙ put_first (has_padding r) r found more
    ∙ sym (ap (λ l. found ++ padded_of ms l) (drop_more rs i zeros_relocation inside)) ∙ so_far
