-- The regions and the gaps of placed objects have addresses.

use Rattle.std.proofs.Common.{◌≤◌, ◌<◌, ◌+◌, ◌^◌, ℕ, Bool, true, false, List, [], ◌∷◌, nat_lt, sym, subst, arith}
use Rattle.std.specs.Prelude.{if◌then◌else◌}
use Rattle.std.specs.List.{AllByRecursion}
use Rattle.std.proofs.Math.Nat.{le_trans}
use Rattle.rv_image_laws.specs.Free.{highest}
use Rattle.rv_image_laws.proofs.FreeLemmas.{free_low}
use Rattle.rv_map_laws.specs.declared.map.Region.{Region}
use Rattle.rv_map_laws.specs.Limits.{IsRegion}
use Rattle.rv_object_laws.specs.Object.{Object}
use Rattle.rv_link_laws.specs.declared.bounds.Ground.{Ground}
use Rattle.rv_link_laws.specs.Inputs.{Starts, InputSection, goes_to_text, inputs, start_of, size, Stand, sections_end, gaps_of}
use Rattle.rv_placement.specs.declared.placement.Placement.{Placement}
use Rattle.rv_placement.specs.Placement.{starts_of, IsPlacement}
use Rattle.rv_link.proofs.GrowingLemmas.{later}

ends_up : (starts : Starts) (stop : ℕ) (is : List InputSection) → Stand starts stop is → stop ≤ sections_end starts stop is
ends_up starts stop [] h = omega arith
ends_up starts stop (i ∷ is) h =
    let here = later starts stop i is h in
    let more = ends_up starts (start_of starts i + size starts i) is h.1 in
    omega (arith, here, more)

gaps_low : (starts : Starts) (stop : ℕ) (is : List InputSection) → Stand starts stop is → sections_end starts stop is < 2 ^ 64 → AllByRecursion IsRegion (gaps_of starts stop is)
gaps_low starts stop [] h low = tt
gaps_low starts stop (i ∷ is) h low =
    let here = later starts stop i is h in
    let more = ends_up starts (start_of starts i + size starts i) is h.1 in
    let start_low : start_of starts i < 2 ^ 64 = omega (arith, more, low) in
    go (nat_lt stop (start_of starts i)) (omega (arith, here, start_low)) start_low (gaps_low starts (start_of starts i + size starts i) is h.1 low)
  where
    rest : List Region
    rest = gaps_of starts (start_of starts i + size starts i) is

    go : (b : Bool) → stop < 2 ^ 64 → start_of starts i < 2 ^ 64 → AllByRecursion IsRegion rest
        → AllByRecursion IsRegion (if b then record { start = stop; end = start_of starts i } ∷ rest else rest)
    go true first last more = ((first, last), more)
    go false first last more = more

module _ (os : List Object) (bounds : Ground) (p : Placement) (placed : IsPlacement os bounds p) where
  pub regions_known : IsRegion p.text × IsRegion p.rodata × IsRegion p.data × IsRegion p.bss
  regions_known =
      let (a, b, c, d, e, f, g) = placed.laid.ordered in
      let low : p.bss.end ≤ highest = le_trans placed.laid.below (le_trans placed.free (free_low bounds.text)) in (
        (omega (arith, a, b, c, d, e, f, g, low), omega (arith, a, b, c, d, e, f, g, low)),
        (omega (arith, a, b, c, d, e, f, g, low), omega (arith, a, b, c, d, e, f, g, low)),
        (omega (arith, a, b, c, d, e, f, g, low), omega (arith, a, b, c, d, e, f, g, low)),
        (omega (arith, a, b, c, d, e, f, g, low), omega (arith, low)),
      )

  pub gaps_known : AllByRecursion IsRegion p.gaps.items
  gaps_known =
      let low = regions_known.0.1 in
      let end = placed.laid.text.2 in
      subst (AllByRecursion IsRegion) (sym placed.laid.gaps)
      (gaps_low (starts_of p) bounds.text (inputs goes_to_text os) placed.laid.text.1 (subst (λ n. n < 2 ^ 64) end low))
