-- What a turn of the loop over sections does to the regions.

use Rattle.std.proofs.Common.{◌≡◌, ℕ, suc, ◌+◌, ◌-◌, ◌<◌, ◌≤◌, drop, get_or, arith, add-one, Bool, true, false, List, [], ◌∷◌, ◌++◌, length, refl, sym, ap, ◌∙◌, subst, inl, inr}
use Rattle.std.specs.Prelude.{◌&&◌, not}
use Rattle.std.specs.Global.{Vec}
use Rattle.std.specs.List.{AllByRecursion}
use Rattle.rv_map_laws.specs.declared.map.Region.{Region}
use Rattle.rv_object_laws.specs.Object.{Section, Object}
use Rattle.rv_link_laws.specs.declared.bounds.Ground.{Ground}
use Rattle.rv_link_laws.specs.Inputs.{InputSection, has_no_bytes, goes_to_text, goes_to_rodata, goes_to_data, inputs_from, inputs_of, inputs, Stand}
use Rattle.rv_link_laws.specs.Names.{object_at, no_object}
use Rattle.rv_link_laws.specs.Untaken.{AreTaken, AreUntaken, IsFirstUntaken}
use Rattle.std.proofs.lemmas.List.{drop_more, drop_all}
use Rattle.rv_isa_laws.specs.Bytes.{zeros}
use Rattle.rv_link_laws.specs.IsLinkOf.{is_loaded}
use Rattle.rv_shorten.specs.Sections.{short_section_of}
use Rattle.rv_placement.specs.declared.placement.Placement.{Placement}
use Rattle.rv_placement.specs.Placement.{starts_of, IsPlacement, layout_of}
use Rattle.rv_link.specs.declared.fixed.PlacedInput.{PlacedInput}
use Rattle.rv_link.specs.declared.regions.Regions.{Regions}
use Rattle.rv_link.specs.Filled.{IsPlacedInput, input_at, linked_in}
use Rattle.rv_fault.specs.declared.link_fault.LinkFault.{LinkFault}
use Rattle.rv_link.specs.Untaken.{OrMemory, AreUnfilled}
use Rattle.rv_link.specs.Regions.{left_from, left_files, IsGrown, AreGrown}
use Rattle.rv_link.proofs.GrowingLemmas.{later, grown_first, grown_next, grown_same, left_takes, left_skips, linked_long}

module _ (os : List Object) (p : Placement) (x : PlacedInput) (is : IsPlacedInput os p x) where
  -- a region that a section goes to
  one : (goes : Section → Bool) (region : Region) (out new : List ℕ) → goes (short_section_of x.section.now) ≡ true
      → IsGrown (linked_in os p) (starts_of p) region (inputs goes os) (left_from os x.file.0 x.index.0 goes) out
      → new ≡ out ++ (zeros (x.placed.now.start - (region.start + length out)) ++ linked_in os p (input_at os x.file.0 x.index.0 (short_section_of x.section.now)))
      → IsGrown (linked_in os p) (starts_of p) region (inputs goes os) (left_from os x.file.0 (x.index.0 + 1) goes) new
  one goes region out new e grown made =
      grown_next (linked_in os p) (starts_of p) region (inputs goes os) (left_from os x.file.0 x.index.0 goes) (input_at os x.file.0 x.index.0 (short_section_of x.section.now)) (left_from os x.file.0 (x.index.0 + 1) goes) out new
      grown (left_takes os x.file.0 x.index.0 (short_section_of x.section.now) goes is.stands e) (linked_long os p x is)
      (made ∙ ap (λ n. out ++ (zeros (n - (region.start + length out)) ++ linked_in os p (input_at os x.file.0 x.index.0 (short_section_of x.section.now)))) (sym is.start))

  -- and one that it doesn't go to
  other : (goes : Section → Bool) (region : Region) (out : List ℕ) → goes (short_section_of x.section.now) ≡ false
      → IsGrown (linked_in os p) (starts_of p) region (inputs goes os) (left_from os x.file.0 x.index.0 goes) out
      → IsGrown (linked_in os p) (starts_of p) region (inputs goes os) (left_from os x.file.0 (x.index.0 + 1) goes) out
  other goes region out e grown =
      grown_same (linked_in os p) (starts_of p) region (inputs goes os) (left_from os x.file.0 x.index.0 goes) (left_from os x.file.0 (x.index.0 + 1) goes) out (left_skips os x.file.0 x.index.0 (short_section_of x.section.now) goes is.stands e) grown

  judged : AreTaken os (layout_of p) (input_at os x.file.0 x.index.0 (short_section_of x.section.now)) → (short_section_of x.section.now).loaded ≡ true
      → (AllByRecursion (AreTaken os (layout_of p)) (left_from os x.file.0 x.index.0 is_loaded) → AllByRecursion (AreTaken os (layout_of p)) (inputs is_loaded os))
      → AllByRecursion (AreTaken os (layout_of p)) (left_from os x.file.0 (x.index.0 + 1) is_loaded) → AllByRecursion (AreTaken os (layout_of p)) (inputs is_loaded os)
  judged here e so h = so (subst (λ l. AllByRecursion (AreTaken os (layout_of p)) l) (sym (left_takes os x.file.0 x.index.0 (short_section_of x.section.now) is_loaded is.stands e)) (here, h))

  -- the first that fails of those behind it
  past : AreTaken os (layout_of p) (input_at os x.file.0 x.index.0 (short_section_of x.section.now)) → (short_section_of x.section.now).loaded ≡ true
      → (fault : LinkFault) → (IsFirstUntaken os (layout_of p) fault (left_from os x.file.0 x.index.0 is_loaded) → IsFirstUntaken os (layout_of p) fault (inputs is_loaded os))
      → IsFirstUntaken os (layout_of p) fault (left_from os x.file.0 (x.index.0 + 1) is_loaded) → IsFirstUntaken os (layout_of p) fault (inputs is_loaded os)
  past here e fault so h = so (subst (λ l. IsFirstUntaken os (layout_of p) fault l) (sym (left_takes os x.file.0 x.index.0 (short_section_of x.section.now) is_loaded is.stands e)) (inr (here, h)))

  -- where a region's section starts
  pub starts_later : (goes : Section → Bool) (region : Region) (out : List ℕ) → goes (short_section_of x.section.now) ≡ true
      → IsGrown (linked_in os p) (starts_of p) region (inputs goes os) (left_from os x.file.0 x.index.0 goes) out → region.start + length out ≤ x.placed.now.start
  starts_later goes region out e grown =
      subst (λ n. region.start + length out ≤ n) is.start
      (later (starts_of p) (region.start + length out) (input_at os x.file.0 x.index.0 (short_section_of x.section.now)) (left_from os x.file.0 (x.index.0 + 1) goes)
      (subst (λ l. Stand (starts_of p) (region.start + length out) l) (left_takes os x.file.0 x.index.0 (short_section_of x.section.now) goes is.stands e) grown.stand))

  -- ---- the regions after a section

  module _ (r : Regions) (grown : AreGrown os p (left_from os x.file.0 x.index.0) r) where
    pub not_loaded : x.section.now.whole.now.loaded ≡ false → AreGrown os p (left_from os x.file.0 (x.index.0 + 1)) r
    not_loaded e = record {
      text = other goes_to_text p.text r.text.items (ap (λ b. b && x.section.now.whole.now.executable) e) grown.text;
      rodata = other goes_to_rodata p.rodata r.rodata.items (ap (λ b. b && not x.section.now.whole.now.executable && not (has_no_bytes (short_section_of x.section.now).contents) && not x.section.now.whole.now.writable) e) grown.rodata;
      «data» = other goes_to_data p.data r.data.items (ap (λ b. b && not x.section.now.whole.now.executable && not (has_no_bytes (short_section_of x.section.now).contents) && x.section.now.whole.now.writable) e) grown.data;
      taken = λ h. grown.taken (subst (λ l. AllByRecursion (AreTaken os (layout_of p)) l) (sym (left_skips os x.file.0 x.index.0 (short_section_of x.section.now) is_loaded is.stands e)) h);
      first = λ fault h. grown.first fault (subst (λ l. IsFirstUntaken os (layout_of p) fault l) (sym (left_skips os x.file.0 x.index.0 (short_section_of x.section.now) is_loaded is.stands e)) h);
    }

    -- it fails itself
    pub failed : x.section.now.whole.now.loaded ≡ true → (fault : LinkFault) → AreUntaken os (layout_of p) fault (input_at os x.file.0 x.index.0 (short_section_of x.section.now)) → IsFirstUntaken os (layout_of p) fault (inputs is_loaded os)
    failed e fault h = grown.first fault (subst (λ l. IsFirstUntaken os (layout_of p) fault l) (sym (left_takes os x.file.0 x.index.0 (short_section_of x.section.now) is_loaded is.stands e)) (inl h))

    pub failed_or : x.section.now.whole.now.loaded ≡ true → (fault : LinkFault) → OrMemory (λ f. AreUntaken os (layout_of p) f (input_at os x.file.0 x.index.0 (short_section_of x.section.now))) fault → AreUnfilled os p fault
    failed_or e fault (inl h) = inl h
    failed_or e fault (inr h) = inr (failed e fault h)

    pub text_is : (a b : Bool) → x.section.now.whole.now.loaded ≡ a → x.section.now.whole.now.executable ≡ b → goes_to_text (short_section_of x.section.now) ≡ (a && b)
    text_is a b e f = ap (λ l. l && x.section.now.whole.now.executable) e ∙ ap (λ l. a && l) f

    pub rodata_is : (a b n w : Bool) → x.section.now.whole.now.loaded ≡ a → x.section.now.whole.now.executable ≡ b → has_no_bytes (short_section_of x.section.now).contents ≡ n → x.section.now.whole.now.writable ≡ w
        → goes_to_rodata (short_section_of x.section.now) ≡ (a && not b && not n && not w)
    rodata_is a b n w e f g h =
        ap (λ l. l && not x.section.now.whole.now.executable && not (has_no_bytes (short_section_of x.section.now).contents) && not x.section.now.whole.now.writable) e
        ∙ ap (λ l. a && not l && not (has_no_bytes (short_section_of x.section.now).contents) && not x.section.now.whole.now.writable) f
        ∙ ap (λ l. a && not b && not l && not x.section.now.whole.now.writable) g ∙ ap (λ l. a && not b && not n && not l) h

    pub data_is : (a b n w : Bool) → x.section.now.whole.now.loaded ≡ a → x.section.now.whole.now.executable ≡ b → has_no_bytes (short_section_of x.section.now).contents ≡ n → x.section.now.whole.now.writable ≡ w
        → goes_to_data (short_section_of x.section.now) ≡ (a && not b && not n && w)
    data_is a b n w e f g h =
        ap (λ l. l && not x.section.now.whole.now.executable && not (has_no_bytes (short_section_of x.section.now).contents) && x.section.now.whole.now.writable) e
        ∙ ap (λ l. a && not l && not (has_no_bytes (short_section_of x.section.now).contents) && x.section.now.whole.now.writable) f
        ∙ ap (λ l. a && not b && not l && x.section.now.whole.now.writable) g ∙ ap (λ l. a && not b && not n && l) h

    module _ (loaded : x.section.now.whole.now.loaded ≡ true) (here : AreTaken os (layout_of p) (input_at os x.file.0 x.index.0 (short_section_of x.section.now))) where
      so : AllByRecursion (AreTaken os (layout_of p)) (left_from os x.file.0 (x.index.0 + 1) is_loaded) → AllByRecursion (AreTaken os (layout_of p)) (inputs is_loaded os)
      so = judged here loaded grown.taken

      behind : (fault : LinkFault) → IsFirstUntaken os (layout_of p) fault (left_from os x.file.0 (x.index.0 + 1) is_loaded) → IsFirstUntaken os (layout_of p) fault (inputs is_loaded os)
      behind fault = past here loaded fault (grown.first fault)

      module _ (out : Vec ℕ) where
        pub in_text : x.section.now.whole.now.executable ≡ true
            → out.items ≡ r.text.items ++ (zeros (x.placed.now.start - (p.text.start + length r.text.items)) ++ linked_in os p (input_at os x.file.0 x.index.0 (short_section_of x.section.now)))
            → AreGrown os p (left_from os x.file.0 (x.index.0 + 1)) (record { text = out; rodata = r.rodata; «data» = r.data })
        in_text e made = record {
          text = one goes_to_text p.text r.text.items out.items (text_is true true loaded e) grown.text made;
          rodata = other goes_to_rodata p.rodata r.rodata.items (rodata_is true true _ _ loaded e refl refl) grown.rodata;
          «data» = other goes_to_data p.data r.data.items (data_is true true _ _ loaded e refl refl) grown.data;
          taken = so;
          first = behind;
        }

        pub in_rodata : x.section.now.whole.now.executable ≡ false → has_no_bytes (short_section_of x.section.now).contents ≡ false → x.section.now.whole.now.writable ≡ false
            → out.items ≡ r.rodata.items ++ (zeros (x.placed.now.start - (p.rodata.start + length r.rodata.items)) ++ linked_in os p (input_at os x.file.0 x.index.0 (short_section_of x.section.now)))
            → AreGrown os p (left_from os x.file.0 (x.index.0 + 1)) (record { text = r.text; rodata = out; «data» = r.data })
        in_rodata e n w made = record {
          text = other goes_to_text p.text r.text.items (text_is true false loaded e) grown.text;
          rodata = one goes_to_rodata p.rodata r.rodata.items out.items (rodata_is true false false false loaded e n w) grown.rodata made;
          «data» = other goes_to_data p.data r.data.items (data_is true false false false loaded e n w) grown.data;
          taken = so;
          first = behind;
        }

        pub in_data : x.section.now.whole.now.executable ≡ false → has_no_bytes (short_section_of x.section.now).contents ≡ false → x.section.now.whole.now.writable ≡ true
            → out.items ≡ r.data.items ++ (zeros (x.placed.now.start - (p.data.start + length r.data.items)) ++ linked_in os p (input_at os x.file.0 x.index.0 (short_section_of x.section.now)))
            → AreGrown os p (left_from os x.file.0 (x.index.0 + 1)) (record { text = r.text; rodata = r.rodata; «data» = out })
        in_data e n w made = record {
          text = other goes_to_text p.text r.text.items (text_is true false loaded e) grown.text;
          rodata = other goes_to_rodata p.rodata r.rodata.items (rodata_is true false false true loaded e n w) grown.rodata;
          «data» = one goes_to_data p.data r.data.items out.items (data_is true false false true loaded e n w) grown.data made;
          taken = so;
          first = behind;
        }

      pub in_bss : x.section.now.whole.now.executable ≡ false → has_no_bytes (short_section_of x.section.now).contents ≡ true → AreGrown os p (left_from os x.file.0 (x.index.0 + 1)) r
      in_bss e n = record {
        text = other goes_to_text p.text r.text.items (text_is true false loaded e) grown.text;
        rodata = other goes_to_rodata p.rodata r.rodata.items (rodata_is true false true _ loaded e n refl) grown.rodata;
        «data» = other goes_to_data p.data r.data.items (data_is true false true _ loaded e n refl) grown.data;
        taken = so;
        first = behind;
      }

-- ---- files

pub grown_along : (os : List Object) (p : Placement) (left next : (Section → Bool) → List InputSection) (r : Regions) → ((goes : Section → Bool) → left goes ≡ next goes)
    → AreGrown os p left r → AreGrown os p next r
grown_along os p left next r same grown = record {
  text = grown_same _ _ p.text _ _ _ r.text.items (same goes_to_text) grown.text;
  rodata = grown_same _ _ p.rodata _ _ _ r.rodata.items (same goes_to_rodata) grown.rodata;
  «data» = grown_same _ _ p.data _ _ _ r.data.items (same goes_to_data) grown.data;
  taken = λ h. grown.taken (subst (λ l. AllByRecursion (AreTaken os (layout_of p)) l) (sym (same is_loaded)) h);
  first = λ fault h. grown.first fault (subst (λ l. IsFirstUntaken os (layout_of p) fault l) (sym (same is_loaded)) h);
}

pub file_opens : (os : List Object) (file : ℕ) → file < length os → (goes : Section → Bool) → left_files os file goes ≡ left_from os file 0 goes
file_opens os file h goes =
    let same : file + 1 - 1 ≡ file = omega arith in
    let first : get_or os file no_object ≡ object_at os (file + 1) = ap (λ n. get_or os n no_object) (sym same) in
    ap (λ l. inputs_of goes (file + 1) l) (drop_more os file no_object h ∙ ap (λ o. o ∷ drop (file + 1) os) first)

pub file_closes : (os : List Object) (file : ℕ) (goes : Section → Bool) → left_from os file (length (object_at os (file + 1)).sections) goes ≡ left_files os (file + 1) goes
file_closes os file goes =
    let o : Object = object_at os (file + 1) in
    let rest : List InputSection = inputs_of goes (suc (file + 1)) (drop (file + 1) os) in
    ap (λ ss. inputs_from goes (file + 1) o (length o.sections) ss ++ rest) (drop_all (length o.sections) o.sections (omega arith))
    ∙ ap (λ n. inputs_of goes n (drop (file + 1) os)) (sym (add-one (file + 1)))

pub files_close : (os : List Object) (goes : Section → Bool) → left_files os (length os) goes ≡ []
files_close os goes = ap (λ l. inputs_of goes (length os + 1) l) (drop_all (length os) os (omega arith))

pub opens : (os : List Object) (p : Placement) (bounds : Ground) (r : Regions) → IsPlacement os bounds p → r.text.items ≡ [] → r.rodata.items ≡ [] → r.data.items ≡ []
    → AreGrown os p (left_files os 0) r
opens os p bounds r placed e f g = record {
  text = subst (λ l. IsGrown (linked_in os p) (starts_of p) p.text (inputs goes_to_text os) (inputs goes_to_text os) l) (sym e) (grown_first (linked_in os p) (starts_of p) p.text _ _ placed.laid.text);
  rodata = subst (λ l. IsGrown (linked_in os p) (starts_of p) p.rodata (inputs goes_to_rodata os) (inputs goes_to_rodata os) l) (sym f) (grown_first (linked_in os p) (starts_of p) p.rodata _ _ placed.laid.rodata);
  «data» = subst (λ l. IsGrown (linked_in os p) (starts_of p) p.data (inputs goes_to_data os) (inputs goes_to_data os) l) (sym g) (grown_first (linked_in os p) (starts_of p) p.data _ _ placed.laid.data);
  taken = λ h. h;
  first = λ fault h. h;
}
