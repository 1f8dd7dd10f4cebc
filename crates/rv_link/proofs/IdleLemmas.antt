-- Relocations without a field: their value is 0, and nothing is written.

use Rattle.std.proofs.Common.{◌≡◌, ℕ, ◌+◌, ◌^◌, ◌<◌, List, ◌∷◌, length, map, get_or, subst, Some, refl, sym, ap, ◌∙◌, true, false, arith}
use Rattle.std.proofs.lemmas.List.{take-append-drop, get_or_default, length-map}
use Rattle.std.proofs.lemmas.Int.{fits_signed_from_abs, int_wrap_fits}
use Rattle.std.specs.Int.{int_wrap, w64}
use Rattle.std.specs.Prelude.{ℤ, pos, drop, if◌then◌else◌}
use Rattle.rv_list_laws.proofs.MapLemmas.{get_or_map_read, drop_map_read}
use Rattle.rv_isa.specs.Kinds.{is_low_part}
use Rattle.rv_isa.specs.declared.kind.Kind.{Kind}
use Rattle.rv_isa.specs.declared.kind.Kind.TheVariants as kinds
use Rattle.rv_reloc_laws.specs.Values.{value_of}
use Rattle.rv_reloc_laws.specs.Ranges.{Takes}
use Rattle.rv_object_laws.specs.Object.{Relocation, Object}
use Rattle.rv_object_types.specs.Parts.{relocation_of}
use Rattle.rv_object_types.specs.declared.relocation.Relocation.{Relocation as Declared}
use Rattle.rv_link_laws.specs.CallSites.{is_call}
use Rattle.rv_link_laws.specs.Moves.{Move}
use Rattle.rv_link_laws.specs.Layout.{outer_in}
use Rattle.rv_cut_laws.specs.Cutting.{cut_at, cut_relocation, kind_left}
use Rattle.rv_link_laws.specs.Inputs.{InputSection, start_of}
use Rattle.rv_link_laws.specs.Values.{value, own_value, paired, patched_at}
use Rattle.rv_placement.specs.declared.placement.Placement.{Placement}
use Rattle.rv_placement.specs.Placement.{starts_of, layout_of}
use Rattle.rv_link.specs.Idle.{is_idle}
use Rattle.rv_link.proofs.StepsLemmas.{IsPatched, patched_step}

-- what holds of a kind without a field
record Idles (k : Kind) : Type 0 where
  worth : (s : ℕ) (a : ℤ) (p : ℕ) → value_of k s a p ≡ pos 0
  low : is_low_part k ≡ false
  call : is_call k ≡ false
  takes : Takes k (pos 0)
  keeps : (offset : ℕ) (v : ℤ) (bytes : List ℕ) → patched_at offset k v bytes ≡ bytes

zero_stays : int_wrap w64 (pos 0) ≡ pos 0
zero_stays = int_wrap_fits w64 (pos 0) (fits_signed_from_abs w64 (pos 0) (let e : 0 < 2 ^ 63 = omega arith in e))

none_idles : Idles kinds.None
none_idles = record { worth = λ s a p. zero_stays; low = refl; call = refl; takes = record { range = tt; even = λ h. absurd (cc) }; keeps = λ offset v bytes. take-append-drop offset bytes }

relax_idles : Idles kinds.Relax
relax_idles = record { worth = λ s a p. zero_stays; low = refl; call = refl; takes = record { range = tt; even = λ h. absurd (cc) }; keeps = λ offset v bytes. take-append-drop offset bytes }

align_idles : Idles kinds.Align
align_idles = record { worth = λ s a p. zero_stays; low = refl; call = refl; takes = record { range = tt; even = λ h. absurd (cc) }; keeps = λ offset v bytes. take-append-drop offset bytes }

idles : (k : Kind) → is_idle k ≡ true → Idles k
idles kinds.None h = none_idles
idles kinds.Abs32 h = absurd (cc)
idles kinds.Abs64 h = absurd (cc)
idles kinds.Branch h = absurd (cc)
idles kinds.Jal h = absurd (cc)
idles kinds.Call h = absurd (cc)
idles kinds.CallPlt h = absurd (cc)
idles kinds.PcrelHi20 h = absurd (cc)
idles kinds.PcrelLo12I h = absurd (cc)
idles kinds.PcrelLo12S h = absurd (cc)
idles kinds.Hi20 h = absurd (cc)
idles kinds.Lo12I h = absurd (cc)
idles kinds.Lo12S h = absurd (cc)
idles kinds.Add8 h = absurd (cc)
idles kinds.Add16 h = absurd (cc)
idles kinds.Add32 h = absurd (cc)
idles kinds.Add64 h = absurd (cc)
idles kinds.Sub8 h = absurd (cc)
idles kinds.Sub16 h = absurd (cc)
idles kinds.Sub32 h = absurd (cc)
idles kinds.Sub64 h = absurd (cc)
idles kinds.Align h = align_idles
idles kinds.RvcBranch h = absurd (cc)
idles kinds.RvcJump h = absurd (cc)
idles kinds.Relax h = relax_idles
idles kinds.Sub6 h = absurd (cc)
idles kinds.Set6 h = absurd (cc)
idles kinds.Set8 h = absurd (cc)
idles kinds.Set16 h = absurd (cc)
idles kinds.Set32 h = absurd (cc)
idles kinds.Pcrel32 h = absurd (cc)

-- what is next of the relocations of a section, as they have moved
next : (ms : List Move) (all items : List Declared) (n : ℕ) (d : Declared) → items ≡ all → n < length items
    → drop n (map (cut_relocation ms) (map relocation_of all)) ≡ cut_relocation ms (relocation_of (get_or items n d)) ∷ drop (n + 1) (map (cut_relocation ms) (map relocation_of all))
next ms all items n d same h =
    let r : Declared = get_or items n d in
    let here : r ≡ get_or all n r = get_or_default items n d r h ∙ ap (λ l. get_or l n r) same in
    let low : n < length all = subst (λ l. n < length l) same h in
    drop_map_read (cut_relocation ms) (map relocation_of all) n (relocation_of r) (subst (λ k. n < k) (sym (length-map all relocation_of)) low) (sym (get_or_map_read relocation_of all n r low here))

idle_step : (os : List Object) (p : Placement) (i : InputSection) (ms : List Move) (all : List Relocation) (old : List ℕ)
    (from : List Relocation) (r : Relocation) (left : List Relocation) (bytes : List ℕ) → IsPatched os p i ms all old from bytes → from ≡ r ∷ left
    → is_idle r.kind ≡ true → IsPatched os p i ms all old left bytes
idle_step os p i ms all old from r left bytes is front h =
    let k = idles r.kind h in
    let outer = outer_in os (layout_of p) in
    let starts = starts_of p in
    let found : value outer starts os i r ≡ Some (pos 0) =
    ap (λ b. if b then paired outer starts os i.file i.object r.symbol else Some (own_value outer (starts i.file) i.object (start_of starts i) i.section r)) k.low
    ∙ ap Some (k.worth _ _ _) in
    patched_step os p i ms all old from r left bytes bytes (pos 0) is front found (λ low. absurd (let both : true ≡ false = sym low ∙ k.low in cc)) k.takes (sym (k.keeps _ (pos 0) bytes)) refl

-- the next relocation has no field
pub idle_next : (os : List Object) (p : Placement) (i : InputSection) (ms cuts : List Move) (all : List Relocation) (old bytes : List ℕ)
    (items whole : List Declared) (n : ℕ) (d : Declared) → items ≡ whole → n < length items
    → IsPatched os p i ms all old (drop n (map (cut_relocation cuts) (map relocation_of whole))) bytes
    → is_idle (get_or items n d).kind ≡ true → IsPatched os p i ms all old (drop (n + 1) (map (cut_relocation cuts) (map relocation_of whole))) bytes
idle_next os p i ms cuts all old bytes items whole n d same less is h =
    let r = relocation_of (get_or items n d) in
    let k = idles r.kind h in
    idle_step os p i ms all old _ (cut_relocation cuts r) _ bytes is (next cuts whole items n d same less)
    (ap (λ b. is_idle (if b then kind_left r.kind (cut_at cuts r.place) else r.kind)) k.call ∙ h)
