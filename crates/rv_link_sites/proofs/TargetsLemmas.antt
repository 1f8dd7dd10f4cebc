-- Where targets stand, and the sites of the whole.

use Rattle.std.proofs.Common.{◌≡◌, ℕ, zero, suc, ◌+◌, ◌-◌, ◌*◌, ◌^◌, ◌≤◌, min, Bool, true, false, List, [], ◌∷◌, Option, Some, None, map, slice_index_or, refl, sym, ap, subst, ◌∙◌, arith}
use Rattle.std.specs.Prelude.{if◌then◌else◌, option_and_then}
use Rattle.std.specs.List.{slice_get}
use Rattle.rv_size_laws.specs.declared.site.Site.{Site}
use Rattle.rv_size_laws.specs.declared.site.SiteKind.{SiteKind}
use Rattle.rv_size_laws.specs.declared.site.SiteKind.TheVariants.{Call, Padding}
use Rattle.rv_size_laws.specs.Calls.{IsText, site_at}
use Rattle.rv_object_types.specs.declared.object.Object.{Object as DeclaredObject}
use Rattle.rv_object_laws.specs.Object.{Section, Relocation, Object, size_of}
use Rattle.rv_object_types.specs.View.{object_of}
use Rattle.rv_link_laws.specs.Inputs.{InputSection, goes_to_text, inputs}
use Rattle.rv_link_laws.specs.Names.{Place, no_object, object_at, symbol_place, is_in_text}
use Rattle.rv_link_laws.specs.CallSites.{start_padding, home, moving, past_end, target_place, base, text_offset, excess, sites_of, length_of}
use Rattle.rv_link_laws.specs.Within.{LeadsWithin, IsWithin}
use Rattle.rv_link_laws.specs.Layout.{section_in, object_section}
use Rattle.rv_link_sites.proofs.CodeObjectsLemmas.{sites_text, sites_within}
use Rattle.rv_link_sites.specs.declared.line.Line.{Line}
use Rattle.rv_link_sites.specs.Line.{end_from, next, ended, ended_files, IsLine}
use Rattle.rv_link_sites.specs.Text.{text_target}
use Rattle.rv_link_sites.proofs.AlongLemmas.{first_in, first_of, base_is, at_files, line_ends}
use Rattle.rv_link_sites.proofs.StepsLemmas.{grows, grows_files}

-- ---- sections

in_file : (os : List Object) (n k : ℕ) → section_in (slice_get os n) k ≡ slice_get (slice_index_or os n no_object).sections k
in_file [] n k = refl
in_file (o ∷ os) zero k = refl
in_file (o ∷ os) (suc n) k = in_file os n k

section_here : (os : List Object) (n k : ℕ) → object_section os n k ≡ slice_get (object_at os (n + 1)).sections k
section_here os n k =
    in_file os n k ∙ ap (λ m. slice_get (slice_index_or os m no_object).sections k) (let e : n ≡ n + 1 - 1 = omega arith in e)

-- ---- a section ends before the line does

low_section : (stop : ℕ) (ss : List Section) (k : ℕ) (s : Section) → slice_get ss k ≡ Some s → goes_to_text s ≡ true → first_in stop ss k + size_of s.contents ≤ ended stop ss
low_section stop [] k s at text = absurd (cc)
low_section stop (t ∷ ss) zero s at text =
    let same : t ≡ s = cc in
    let up = grows (next stop t) ss in
    by (goes_to_text t) (ap goes_to_text same ∙ text) (ap (λ (x : Section). size_of x.contents) same) (λ b. grows (if b then end_from stop t else stop) ss)
  where
    by : (b : Bool) → b ≡ true → size_of t.contents ≡ size_of s.contents → ((c : Bool) → (if c then end_from stop t else stop) ≤ ended (if c then end_from stop t else stop) ss)
        → (if b then stop + start_padding t else stop) + size_of s.contents ≤ ended (if b then end_from stop t else stop) ss
    by true e size up = let u = up true in omega (arith, size, u)
    by false e size up = absurd (cc)
low_section stop (t ∷ ss) (suc k) s at text = low_section (next stop t) ss k s at text

low_files : (stop : ℕ) (os : List Object) (n k : ℕ) (s : Section) → object_section os n k ≡ Some s → goes_to_text s ≡ true → first_of stop os n k + size_of s.contents ≤ ended_files stop os
low_files stop [] n k s at text = absurd (cc)
low_files stop (o ∷ os) zero k s at text =
    let one = low_section stop o.sections k s at text in
    let up = grows_files (ended stop o.sections) os in
    omega (arith, one, up)
low_files stop (o ∷ os) (suc n) k s at text = low_files (ended stop o.sections) os n k s at text

object_there : (os : List Object) (n k : ℕ) (s : Section) → object_section os n k ≡ Some s → (o : Object) × (slice_get os n ≡ Some o) × (slice_get o.sections k ≡ Some s)
object_there [] n k s at = absurd (cc)
object_there (o ∷ os) zero k s at = (o, refl, at)
object_there (o ∷ os) (suc n) k s at = object_there os n k s at

in_text : (o : Option Section) → is_in_text o ≡ true → (s : Section) × (o ≡ Some s) × (goes_to_text s ≡ true)
in_text None h = absurd (cc)
in_text (Some s) h = (s, refl, h)

-- what the line tells of a section of text
pub record ToldByLine (os : List Object) (l : Line) (n k : ℕ) : Type 0 where
  pub section : Section
  pub there : object_section os n k ≡ Some section
  pub entry : ℕ
  pub file : slice_get l.files.items n ≡ Some entry
  pub first : slice_get l.places.items (entry + 2 * k) ≡ Some (base os (n + 1) k)
  pub end : slice_get l.places.items (suc (entry + 2 * k)) ≡ Some (base os (n + 1) k + size_of section.contents)
  pub low : base os (n + 1) k + size_of section.contents ≤ ended_files 0 os

pub stands : (os : List Object) (l : Line) (n k : ℕ) → IsLine os l → is_in_text (object_section os n k) ≡ true → ToldByLine os l n k
stands os l n k line text =
    let t = in_text (object_section os n k) text in
    let o = object_there os n k t.0 t.1 in
    let found = at_files 0 0 os n k o.0 t.0 o.1 o.2 t.2 in
    let is = base_is os n k o.0 t.0 o.1 o.2 t.2 in
    let low = low_files 0 os n k t.0 t.1 t.2 in
    record {
      section = t.0;
      there = t.1;
      entry = found.0;
      file = ap (λ xs. slice_get xs n) line.files ∙ found.1 ∙ ap Some (let e : 0 + found.0 ≡ found.0 = omega arith in e);
      first = ap (λ xs. slice_get xs (found.0 + 2 * k)) line.places ∙ found.2.0 ∙ ap Some is;
      end = ap (λ xs. slice_get xs (suc (found.0 + 2 * k))) line.places ∙ found.2.1 ∙ ap (λ m. Some (m + size_of t.0.contents)) is;
      low = omega (arith, is, low);
    }

-- ---- targets

module _ (os : List Object) (n k offset : ℕ) where
  abbrev there : Place
  there = record { file = n + 1; section = k; offset = offset }

  home_here : home os there ≡ object_section os n k
  home_here = sym (section_here os n k)

  -- a section that goes to text, or none
  target_if : (b : Bool) → is_in_text (object_section os n k) ≡ b → (if b then Some (record { offset = text_offset os (Some there); past_end = excess os (Some there) }) else None) ≡ text_target os (Some there)
  target_if b h = sym (ap (λ b. if b then Some (record { offset = text_offset os (Some there); past_end = excess os (Some there) }) else None) (ap is_in_text home_here ∙ h))

  pub offset_none : is_in_text (object_section os n k) ≡ false → None ≡ text_target os (Some there)
  offset_none h = target_if false h

  pub offset_some : (start end w past : ℕ) → is_in_text (object_section os n k) ≡ true → start ≡ base os (n + 1) k → ((s : Section) → object_section os n k ≡ Some s → end ≡ start + size_of s.contents)
      → w ≡ min (start + offset) end → past ≡ start + offset - end → Some (record { offset = w; past_end = past }) ≡ text_target os (Some there)
  offset_some start end w past text is ends least beyond =
      let t = in_text (object_section os n k) text in
      let end_is = ends t.0 t.1 in
      let here = home_here ∙ t.1 in
      let fits : w ≡ base os (n + 1) k + min offset (size_of t.0.contents) = omega (arith, is, end_is, least) in
      let over : past ≡ offset - size_of t.0.contents = omega (arith, end_is, beyond) in
      ap (λ m. Some (record { offset = m; past_end = past })) (fits ∙ sym (ap (λ s. base os (n + 1) k + moving s offset) here))
      ∙ ap (λ m. Some (record { offset = text_offset os (Some there); past_end = m })) (over ∙ sym (ap (λ s. past_end s offset) here)) ∙ target_if true text

-- ---- the whole

leads_more : (a b : ℕ) (k : SiteKind) → a ≤ b → LeadsWithin a k → LeadsWithin b k
leads_more a b (Call call) le h = omega (arith, le, h)
leads_more a b (Padding padding) le h = tt

within_more : (a b : ℕ) (s : Site) → a ≤ b → IsWithin a s → IsWithin b s
within_more a b s le h = record { end = (let e = h.end in omega (arith, le, e)); leads = leads_more a b s.kind le h.leads }

pub is_text : (ds : List DeclaredObject) (sites : List Site) → sites ≡ sites_of (map object_of ds) → IsText sites
is_text ds sites is = subst IsText (sym is) (sites_text ds)

pub are_within : (ds : List DeclaredObject) (sites : List Site) → sites ≡ sites_of (map object_of ds) → ended_files 0 (map object_of ds) ≤ 9 * 2 ^ 123 → (i : ℕ) → IsWithin (9 * 2 ^ 123) (site_at sites i)
are_within ds sites is low i =
    let ends = line_ends (map object_of ds) in
    subst (λ l. IsWithin (9 * 2 ^ 123) (site_at l i)) (sym is)
    (within_more (length_of (inputs goes_to_text (map object_of ds))) (9 * 2 ^ 123) (site_at (sites_of (map object_of ds)) i) (omega (arith, low, ends)) (sites_within ds i))

-- ---- the symbol of a relocation

-- a relocation without one leads nowhere
pub target_none : (os : List Object) (i : InputSection) (r : Relocation) → r.symbol ≡ None → text_target os (target_place os i r) ≡ None
target_none os i r h = ap (λ o. text_target os (option_and_then (λ index. option_and_then (symbol_place os i.file) (slice_get i.object.symbols index)) o)) h

pub target_is : (os : List Object) (i : InputSection) (r : Relocation) (file index : ℕ) → i.file ≡ file → r.symbol ≡ Some index
    → target_place os i r ≡ option_and_then (symbol_place os file) (slice_get i.object.symbols index)
target_is os i r file index same h =
    ap (option_and_then (λ n. option_and_then (symbol_place os i.file) (slice_get i.object.symbols n))) h
    ∙ ap (λ f. option_and_then (symbol_place os f) (slice_get i.object.symbols index)) same
