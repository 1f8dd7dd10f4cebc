-- The passes along the line give its sites, its length and where its sections stand.

use Rattle.std.proofs.Common.{◌≡◌, ℕ, zero, suc, ◌+◌, ◌*◌, Bool, true, false, ◌&&◌, List, [], ◌∷◌, ◌++◌, length, Some, refl, sym, ap, ◌∙◌, append_assoc, arith}
use Rattle.std.specs.Prelude.{◌==◌, if◌then◌else◌}
use Rattle.std.specs.List.{slice_get}
use Rattle.std.proofs.lemmas.Bool.{eq-eqb, ne_eqb, and_from, and_left, and_right}
use Rattle.rv_list_laws.proofs.ElementsLemmas.{get_front, get_behind}
use Rattle.rv_object_laws.specs.Object.{Section, Object, size_of}
use Rattle.rv_link_laws.specs.Inputs.{InputSection, goes_to_text, inputs_from, inputs_of, inputs}
use Rattle.rv_link_laws.specs.CallSites.{start_padding, base_in, base, sites_from, sites_of, length_of}
use Rattle.rv_link_sites.specs.Line.{end_from, next, ended, ended_files, first_behind, places, places_files, entries, text_sites, input, object_sites, files_sites}
use Rattle.rv_link_sites.proofs.StepsLemmas.{many_places}

-- ---- lengths

length_append : (is js : List InputSection) → length_of (is ++ js) ≡ length_of is + length_of js
length_append [] js = omega arith
length_append (i ∷ is) js = let h = length_append is js in omega (arith, h)

pub ended_is : (file : ℕ) (o : Object) (index stop : ℕ) (ss : List Section) → ended stop ss ≡ stop + length_of (inputs_from goes_to_text file o index ss)
ended_is file o index stop [] = omega arith
ended_is file o index stop (s ∷ ss) = by (goes_to_text s) (ended_is file o (suc index) (end_from stop s) ss) (ended_is file o (suc index) stop ss)
  where
    rest : List InputSection
    rest = inputs_from goes_to_text file o (suc index) ss

    by : (b : Bool) → ended (end_from stop s) ss ≡ end_from stop s + length_of rest → ended stop ss ≡ stop + length_of rest
        → ended (if b then end_from stop s else stop) ss ≡ stop + length_of (if b then input file o index s ∷ rest else rest)
    by true h g = omega (arith, h)
    by false h g = g

pub ended_files_is : (file stop : ℕ) (os : List Object) → ended_files stop os ≡ stop + length_of (inputs_of goes_to_text file os)
ended_files_is file stop [] = omega arith
ended_files_is file stop (o ∷ os) =
    let one = ended_is file o 0 stop o.sections in
    let more = ended_files_is (suc file) (ended stop o.sections) os in
    let both = length_append (inputs_from goes_to_text file o 0 o.sections) (inputs_of goes_to_text (suc file) os) in
    omega (arith, one, more, both)

pub line_ends : (os : List Object) → ended_files 0 os ≡ length_of (inputs goes_to_text os)
line_ends os = let h = ended_files_is 1 0 os in omega (arith, h)

-- ---- sites

sites_append : (os : List Object) (offset : ℕ) (is js : List InputSection) → sites_from os offset (is ++ js) ≡ sites_from os offset is ++ sites_from os (offset + length_of is) js
sites_append os offset [] js = ap (λ n. sites_from os n js) (let e : offset ≡ offset + 0 = omega arith in e)
sites_append os offset (i ∷ is) js =
    let stop = offset + start_padding i.section + size_of i.section.contents in
    let same : stop + length_of is ≡ offset + length_of (i ∷ is) = omega arith in
    ap (λ l. text_sites os offset i ++ l) (sites_append os stop is js ∙ ap (λ n. sites_from os stop is ++ sites_from os n js) same)
    ∙ sym (append_assoc (text_sites os offset i) (sites_from os stop is) (sites_from os (offset + length_of (i ∷ is)) js))

object_is : (os : List Object) (file : ℕ) (o : Object) (index stop : ℕ) (ss : List Section) → object_sites os file o index stop ss ≡ sites_from os stop (inputs_from goes_to_text file o index ss)
object_is os file o index stop [] = refl
object_is os file o index stop (s ∷ ss) = by (goes_to_text s) (object_is os file o (suc index) (end_from stop s) ss) (object_is os file o (suc index) stop ss)
  where
    rest : List InputSection
    rest = inputs_from goes_to_text file o (suc index) ss

    it : InputSection
    it = input file o index s

    by : (b : Bool) → object_sites os file o (suc index) (end_from stop s) ss ≡ sites_from os (end_from stop s) rest → object_sites os file o (suc index) stop ss ≡ sites_from os stop rest
        → (if b then text_sites os stop it else []) ++ object_sites os file o (suc index) (if b then end_from stop s else stop) ss ≡ sites_from os stop (if b then it ∷ rest else rest)
    by true h g = ap (λ l. text_sites os stop it ++ l) h
    by false h g = g

files_are : (os : List Object) (file stop : ℕ) (rest : List Object) → files_sites os file stop rest ≡ sites_from os stop (inputs_of goes_to_text file rest)
files_are os file stop [] = refl
files_are os file stop (o ∷ rest) =
    let here = inputs_from goes_to_text file o 0 o.sections in
    let more = inputs_of goes_to_text (suc file) rest in
    ap (λ l. l ++ files_sites os (suc file) (ended stop o.sections) rest) (object_is os file o 0 stop o.sections)
    ∙ ap (λ l. sites_from os stop here ++ l) (files_are os (suc file) (ended stop o.sections) rest ∙ ap (λ n. sites_from os n more) (ended_is file o 0 stop o.sections))
    ∙ sym (sites_append os stop here more)

pub sites_are : (os : List Object) → files_sites os 1 0 os ≡ sites_of os
sites_are os = files_are os 1 0 os

-- ---- where sections stand

-- where the first byte of a section stands, by its index, and by its file and its index there
abbrev pub first_in : ℕ → List Section → ℕ → ℕ
first_in stop [] k = stop
first_in stop (s ∷ ss) zero = first_behind stop s
first_in stop (s ∷ ss) (suc k) = first_in (next stop s) ss k

abbrev pub first_of : ℕ → List Object → (file index : ℕ) → ℕ
first_of stop [] n k = stop
first_of stop (o ∷ os) zero k = first_in stop o.sections k
first_of stop (o ∷ os) (suc n) k = first_of (ended stop o.sections) os n k

base_section : (file : ℕ) (o : Object) (index stop : ℕ) (ss : List Section) (more : List InputSection) (k : ℕ) (s : Section) → slice_get ss k ≡ Some s → goes_to_text s ≡ true
    → first_in stop ss k ≡ stop + base_in (inputs_from goes_to_text file o index ss ++ more) file (index + k)
base_section file o index stop [] more k s at text = absurd (cc)
base_section file o index stop (t ∷ ss) more zero s at text =
    let same : t ≡ s = cc in
    by (goes_to_text t) (ap goes_to_text same ∙ text)
  where
    rest : List InputSection
    rest = inputs_from goes_to_text file o (suc index) ss

    it : InputSection
    it = input file o index t

    found : ((file == file) && (index == index + 0)) ≡ true
    found = and_from (file == file) (index == index + 0) (eq-eqb file file refl) (eq-eqb index (index + 0) (omega arith))

    here : base_in (it ∷ (rest ++ more)) file (index + 0) ≡ start_padding t + 0
    here = ap (λ b. start_padding t + (if b then 0 else size_of t.contents + base_in (rest ++ more) file (index + 0))) found

    by : (b : Bool) → b ≡ true → (if b then stop + start_padding t else stop) ≡ stop + base_in ((if b then it ∷ rest else rest) ++ more) file (index + 0)
    by true e = let h = here in omega (arith, h)
    by false e = absurd (cc)
base_section file o index stop (t ∷ ss) more (suc k) s at text =
    by (goes_to_text t) (base_section file o (suc index) (end_from stop t) ss more k s at text) (base_section file o (suc index) stop ss more k s at text)
  where
    rest : List InputSection
    rest = inputs_from goes_to_text file o (suc index) ss

    it : InputSection
    it = input file o index t

    same : suc index + k ≡ index + suc k
    same = omega arith

    other : ((file == file) && (index == index + suc k)) ≡ false
    other = and_right (file == file) (index == index + suc k) (ne_eqb index (index + suc k) (λ e. omega (arith, e)))

    past : base_in (it ∷ (rest ++ more)) file (index + suc k) ≡ start_padding t + (size_of t.contents + base_in (rest ++ more) file (index + suc k))
    past = ap (λ b. start_padding t + (if b then 0 else size_of t.contents + base_in (rest ++ more) file (index + suc k))) other

    by : (b : Bool) → first_in (end_from stop t) ss k ≡ end_from stop t + base_in (rest ++ more) file (suc index + k)
        → first_in stop ss k ≡ stop + base_in (rest ++ more) file (suc index + k)
        → first_in (if b then end_from stop t else stop) ss k ≡ stop + base_in ((if b then it ∷ rest else rest) ++ more) file (index + suc k)
    by true h g =
        let moved = ap (base_in (rest ++ more) file) same in
        let p = past in
        omega (arith, h, moved, p)
    by false h g = g ∙ ap (λ n. stop + base_in (rest ++ more) file n) same

-- those of another file are passed over
base_past : (file other : ℕ) (o : Object) (index : ℕ) (ss : List Section) (more : List InputSection) (k : ℕ) → (file ≡ other → ⊥)
    → base_in (inputs_from goes_to_text file o index ss ++ more) other k ≡ length_of (inputs_from goes_to_text file o index ss) + base_in more other k
base_past file other o index [] more k not' = omega arith
base_past file other o index (t ∷ ss) more k not' = by (goes_to_text t) (base_past file other o (suc index) ss more k not')
  where
    rest : List InputSection
    rest = inputs_from goes_to_text file o (suc index) ss

    it : InputSection
    it = input file o index t

    past : base_in (it ∷ (rest ++ more)) other k ≡ start_padding t + (size_of t.contents + base_in (rest ++ more) other k)
    past = ap (λ b. start_padding t + (if b then 0 else size_of t.contents + base_in (rest ++ more) other k)) (and_left (file == other) (index == k) (ne_eqb file other not'))

    by : (b : Bool) → base_in (rest ++ more) other k ≡ length_of rest + base_in more other k
        → base_in ((if b then it ∷ rest else rest) ++ more) other k ≡ length_of (if b then it ∷ rest else rest) + base_in more other k
    by true h = let p = past in omega (arith, p, h)
    by false h = h

base_files : (file stop : ℕ) (os : List Object) (n k : ℕ) (o : Object) (s : Section) → slice_get os n ≡ Some o → slice_get o.sections k ≡ Some s → goes_to_text s ≡ true
    → first_of stop os n k ≡ stop + base_in (inputs_of goes_to_text file os) (file + n) k
base_files file stop [] n k o s at there text = absurd (cc)
base_files file stop (p ∷ os) zero k o s at there text =
    let same : p ≡ o = cc in
    let one = base_section file p 0 stop p.sections (inputs_of goes_to_text (suc file) os) k s (ap (λ (x : Object). slice_get x.sections k) same ∙ there) text in
    let first : 0 + k ≡ k = omega arith in
    let number : file ≡ file + 0 = omega arith in
    let all = inputs_from goes_to_text file p 0 p.sections ++ inputs_of goes_to_text (suc file) os in
    one ∙ ap (λ m. stop + base_in all file m) first ∙ ap (λ m. stop + base_in all m k) number
base_files file stop (p ∷ os) (suc n) k o s at there text =
    let more = base_files (suc file) (ended stop p.sections) os n k o s at there text in
    let number : suc file + n ≡ file + suc n = omega arith in
    let past = base_past file (file + suc n) p 0 p.sections (inputs_of goes_to_text (suc file) os) k (λ e. omega (arith, e)) in
    let ends = ended_is file p 0 stop p.sections in
    let moved = ap (λ m. base_in (inputs_of goes_to_text (suc file) os) m k) number in
    let total : ended stop p.sections + base_in (inputs_of goes_to_text (suc file) os) (suc file + n) k
    ≡ stop + base_in (inputs_from goes_to_text file p 0 p.sections ++ inputs_of goes_to_text (suc file) os) (file + suc n) k = omega (arith, past, ends, moved) in
    more ∙ total

pub base_is : (os : List Object) (n k : ℕ) (o : Object) (s : Section) → slice_get os n ≡ Some o → slice_get o.sections k ≡ Some s → goes_to_text s ≡ true → first_of 0 os n k ≡ base os (n + 1) k
base_is os n k o s at there text =
    let all = base_files 1 0 os n k o s at there text in
    let number : 1 + n ≡ n + 1 = omega arith in
    let start : 0 + base_in (inputs goes_to_text os) (1 + n) k ≡ base_in (inputs goes_to_text os) (1 + n) k = omega arith in
    all ∙ start ∙ ap (λ m. base os m k) number

-- ---- and where that is told

-- both places of a section, from a place of a list on
abbrev pub AtPlace : List ℕ → (place first size : ℕ) → Type 0
AtPlace xs place first size = (slice_get xs place ≡ Some first) × (slice_get xs (suc place) ≡ Some (first + size))

at_section : (stop : ℕ) (ss : List Section) (k place : ℕ) (s : Section) → place ≡ 2 * k → slice_get ss k ≡ Some s → goes_to_text s ≡ true → AtPlace (places stop ss) place (first_in stop ss k) (size_of s.contents)
at_section stop [] k place s e at text = absurd (cc)
at_section stop (t ∷ ss) zero (suc place) s e at text = absurd (omega (arith, e))
at_section stop (t ∷ ss) zero zero s e at text =
    let same : t ≡ s = cc in
    (refl, ap Some (by (goes_to_text t) (ap goes_to_text same ∙ text) (ap (λ (x : Section). size_of x.contents) same)))
  where
    by : (b : Bool) → b ≡ true → size_of t.contents ≡ size_of s.contents → (if b then end_from stop t else stop) ≡ (if b then stop + start_padding t else stop) + size_of s.contents
    by true e size = omega (arith, size)
    by false e size = absurd (cc)
at_section stop (t ∷ ss) (suc k) zero s e at text = absurd (omega (arith, e))
at_section stop (t ∷ ss) (suc k) (suc zero) s e at text = absurd (omega (arith, e))
at_section stop (t ∷ ss) (suc k) (suc (suc place)) s e at text = at_section (next stop t) ss k place s (omega (arith, e)) at text

pub at_files : (n stop : ℕ) (os : List Object) (file k : ℕ) (o : Object) (s : Section) → slice_get os file ≡ Some o → slice_get o.sections k ≡ Some s → goes_to_text s ≡ true
    → (entry : ℕ) × (slice_get (entries n os) file ≡ Some (n + entry)) × AtPlace (places_files stop os) (entry + 2 * k) (first_of stop os file k) (size_of s.contents)
at_files n stop [] file k o s at there text = absurd (cc)
at_files n stop (p ∷ os) zero k o s at there text =
    let same : p ≡ o = cc in
    let here = at_section stop p.sections k (0 + 2 * k) s (omega arith) (ap (λ (x : Object). slice_get x.sections k) same ∙ there) text in
    let more = places_files (ended stop p.sections) os in
    (0, ap Some (let e : n ≡ n + 0 = omega arith in e), (get_front (places stop p.sections) more _ _ here.0, get_front (places stop p.sections) more _ _ here.1))
at_files n stop (p ∷ os) (suc file) k o s at there text =
    let len = length p.sections in
    let found = at_files (n + 2 * len) (ended stop p.sections) os file k o s at there text in
    let own = places stop p.sections in
    let more = places_files (ended stop p.sections) os in
    let many = many_places stop p.sections in
    let entry = found.0 in (
      2 * len + entry,
      found.1 ∙ ap Some (let e : n + 2 * len + entry ≡ n + (2 * len + entry) = omega arith in e),
      (
        get_behind own more (entry + 2 * k) (2 * len + entry + 2 * k) (omega (arith, many)) ∙ found.2.0,
        get_behind own more (suc (entry + 2 * k)) (suc (2 * len + entry + 2 * k)) (omega (arith, many)) ∙ found.2.1,
      ),
    )
