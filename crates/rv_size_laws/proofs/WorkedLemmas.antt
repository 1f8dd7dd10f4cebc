-- The definitions on small texts: a call and a `tail` at the edges of their reach, and a padding that regrows.

use Rattle.std.proofs.Common.{◌≡◌, ℕ, ◌+◌, ◌*◌, Bool, true, false, List, [], ◌∷◌, pos, ◌-ℤ◌, refl}
use Rattle.rv_size_laws.specs.declared.site.Site.{Site}
use Rattle.rv_size_laws.specs.declared.site.SiteKind.TheVariants.{Call, Padding}
use Rattle.rv_size_laws.specs.Calls.{half, new_offset}
use Rattle.rv_size_laws.proofs.ReachingLemmas.{reaches}

call_at : ℕ → ℕ → Site
call_at offset target = record { offset = offset; kind = Call (record { target = target; addend = pos 0; compressed = true }) }

-- whether a call would reach in the form of a size
would_reach : List Site → List ℕ → ℕ → ℕ → ℕ → Bool
would_reach sites kept offset target size = reaches (half size) (pos 0) (pos (new_offset sites kept target) -ℤ pos (new_offset sites kept offset))

-- one call at the start, and so many bytes before its target
over : ℕ → ℕ → ℕ → Bool
over between kept size = would_reach (call_at 0 (8 + between) ∷ []) (kept ∷ []) 0 (8 + between) size

-- `call` over 524283 instructions of 2 bytes becomes 4 bytes, and over one more it stays
call_reaches : over (2 * 524283) 8 4 ≡ true
unfolding over would_reach call_at
call_reaches = refl

call_stays : over (2 * 524284) 8 4 ≡ false
unfolding over would_reach call_at
call_stays = refl

-- `tail` over 1021 becomes 4 bytes, and then 2; over one more it stays at 4
tail_reaches : over (2 * 1021) 4 2 ≡ true
unfolding over would_reach call_at
tail_reaches = refl

tail_stays : over (2 * 1022) 4 2 ≡ false
unfolding over would_reach call_at
tail_stays = refl

-- seven instructions, a `tail` to g, one to f, 1020 instructions, g, an alignment to 16, f
two_tails : List Site
two_tails = call_at 14 2070 ∷ call_at 22 2084 ∷ record { offset = 2070; kind = Padding (record { bytes = 14; alignment = 16 }) } ∷ []

-- both have 4 bytes, since neither reaches in 2 with the padding in full
first_stays : would_reach two_tails (4 ∷ 4 ∷ 14 ∷ []) 14 2070 2 ≡ false
unfolding two_tails would_reach call_at
first_stays = refl

second_stays : would_reach two_tails (4 ∷ 4 ∷ 14 ∷ []) 22 2084 2 ≡ false
unfolding two_tails would_reach call_at
second_stays = refl

-- with the padding that regrows, of 2 bytes, the second would
second_would : would_reach two_tails (4 ∷ 4 ∷ 2 ∷ []) 22 2084 2 ≡ true
unfolding two_tails would_reach call_at
second_would = refl

-- g and f then stand 2062 and 2064 bytes after the start
g_stands : new_offset two_tails (4 ∷ 4 ∷ 2 ∷ []) 2070 ≡ 2062
unfolding two_tails call_at
g_stands = refl

f_stands : new_offset two_tails (4 ∷ 4 ∷ 2 ∷ []) 2084 ≡ 2064
unfolding two_tails call_at
f_stands = refl
