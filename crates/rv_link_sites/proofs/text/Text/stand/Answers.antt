use Rattle.std.proofs.Common.{◌≡◌, suc, ◌+◌, ◌*◌, ◌<◌, Some, length, ap, sym, ◌∙◌, arith, rules}
use Rattle.std.specs.List.{slice_get}
use Rattle.std.proofs.lemmas.Option.{slice_get_within, get_or_from_slice_get}
use Rattle.rv_object_laws.specs.Object.{Section, size_of}
use Rattle.rv_link_laws.specs.CallSites.{base}
use Rattle.rv_link_sites.specs.Text.{objects_of}
use Rattle.rv_link_sites.proofs.TargetsLemmas.{stands}
use Rattle.rv_link_sites.proofs.text.Text.stand.Goals as goal

pub index-entry-requires : goal.index-entry-requires
index-entry-requires c =
    let l = c.args.self.now.line in
    let k = c.args.section.0 in
    let s = stands (objects_of c.args.self.now) l c.args.file.0 k c.requires.laid.line c.requires.text in
    let within : c.args.file.0 < length l.files.items = slice_get_within l.files.items c.args.file.0 s.entry s.file in
    search rules

pub overflow_mul-place : goal.overflow_mul-place
overflow_mul-place c =
    let l = c.args.self.now.line in
    let k = c.args.section.0 in
    let s = stands (objects_of c.args.self.now) l c.args.file.0 k c.requires.laid.line c.requires.text in
    let within = slice_get_within l.places.items (suc (s.entry + 2 * k)) _ s.end in
    omega (arith, within, l.places.ok, l.places.small)

pub overflow_add-place : goal.overflow_add-place
overflow_add-place c =
    let l = c.args.self.now.line in
    let k = c.args.section.0 in
    let s = stands (objects_of c.args.self.now) l c.args.file.0 k c.requires.laid.line c.requires.text in
    let entry = c.index-entry.ensures ∙ get_or_from_slice_get l.files.items c.args.file.0 s.entry _ s.file in
    let within = slice_get_within l.places.items (suc (s.entry + 2 * k)) _ s.end in
    omega (arith, entry, within, l.places.ok, l.places.small)

pub overflow_add-place-2 : goal.overflow_add-place-2
overflow_add-place-2 c =
    let l = c.args.self.now.line in
    let k = c.args.section.0 in
    let s = stands (objects_of c.args.self.now) l c.args.file.0 k c.requires.laid.line c.requires.text in
    let entry = c.index-entry.ensures ∙ get_or_from_slice_get l.files.items c.args.file.0 s.entry _ s.file in
    let within = slice_get_within l.places.items (suc (s.entry + 2 * k)) _ s.end in
    omega (arith, entry, within, l.places.ok, l.places.small)

pub index-start-requires : goal.index-start-requires
index-start-requires c =
    let l = c.args.self.now.line in
    let k = c.args.section.0 in
    let s = stands (objects_of c.args.self.now) l c.args.file.0 k c.requires.laid.line c.requires.text in
    let entry = c.index-entry.ensures ∙ get_or_from_slice_get l.files.items c.args.file.0 s.entry _ s.file in
    let within = slice_get_within l.places.items (suc (s.entry + 2 * k)) _ s.end in
    let inside : c.index-entry.result.now + 2 * k < length l.places.items = omega (arith, entry, within) in
    search rules

pub index-end-requires : goal.index-end-requires
index-end-requires c =
    let l = c.args.self.now.line in
    let k = c.args.section.0 in
    let s = stands (objects_of c.args.self.now) l c.args.file.0 k c.requires.laid.line c.requires.text in
    let entry = c.index-entry.ensures ∙ get_or_from_slice_get l.files.items c.args.file.0 s.entry _ s.file in
    let within = slice_get_within l.places.items (suc (s.entry + 2 * k)) _ s.end in
    let inside : c.index-entry.result.now + 2 * k + 1 < length l.places.items = omega (arith, entry, within) in
    search rules

pub returns-clause-start : goal.returns-clause-start
returns-clause-start c =
    let os = objects_of c.args.self.now in
    let l = c.args.self.now.line in
    let k = c.args.section.0 in
    let s = stands (objects_of c.args.self.now) l c.args.file.0 k c.requires.laid.line c.requires.text in
    let entry = c.index-entry.ensures ∙ get_or_from_slice_get l.files.items c.args.file.0 s.entry _ s.file in
    let start = c.index-start.ensures ∙ get_or_from_slice_get l.places.items (c.index-entry.result.now + 2 * k) (base os (c.args.file.0 + 1) k) _ (ap (λ e. slice_get l.places.items (e + 2 * k)) entry ∙ s.first) in
    start

pub returns-clause-end : goal.returns-clause-end
returns-clause-end c = λ t at.
    let os = objects_of c.args.self.now in
    let l = c.args.self.now.line in
    let k = c.args.section.0 in
    let s = stands (objects_of c.args.self.now) l c.args.file.0 k c.requires.laid.line c.requires.text in
    let entry = c.index-entry.ensures ∙ get_or_from_slice_get l.files.items c.args.file.0 s.entry _ s.file in
    let start = c.index-start.ensures ∙ get_or_from_slice_get l.places.items (c.index-entry.result.now + 2 * k) (base os (c.args.file.0 + 1) k) _ (ap (λ e. slice_get l.places.items (e + 2 * k)) entry ∙ s.first) in
    let behind : c.index-entry.result.now + 2 * k + 1 ≡ suc (s.entry + 2 * k) = omega (arith, entry) in
    let end = c.index-end.ensures ∙ get_or_from_slice_get l.places.items (c.index-entry.result.now + 2 * k + 1) (base os (c.args.file.0 + 1) k + size_of s.section.contents) _ (ap (slice_get l.places.items) behind ∙ s.end) in
    let both : Some s.section ≡ Some t = sym s.there ∙ at in
    let same : s.section ≡ t = cc in
    let size = ap (λ (x : Section). size_of x.contents) same in
    omega (arith, start, end, size)

pub returns-clause-order : goal.returns-clause-order
returns-clause-order c =
    let os = objects_of c.args.self.now in
    let l = c.args.self.now.line in
    let k = c.args.section.0 in
    let s = stands (objects_of c.args.self.now) l c.args.file.0 k c.requires.laid.line c.requires.text in
    let entry = c.index-entry.ensures ∙ get_or_from_slice_get l.files.items c.args.file.0 s.entry _ s.file in
    let start = c.index-start.ensures ∙ get_or_from_slice_get l.places.items (c.index-entry.result.now + 2 * k) (base os (c.args.file.0 + 1) k) _ (ap (λ e. slice_get l.places.items (e + 2 * k)) entry ∙ s.first) in
    let behind : c.index-entry.result.now + 2 * k + 1 ≡ suc (s.entry + 2 * k) = omega (arith, entry) in
    let end = c.index-end.ensures ∙ get_or_from_slice_get l.places.items (c.index-entry.result.now + 2 * k + 1) (base os (c.args.file.0 + 1) k + size_of s.section.contents) _ (ap (slice_get l.places.items) behind ∙ s.end) in
    omega (arith, start, end)

pub returns-clause-low : goal.returns-clause-low
returns-clause-low c =
    let os = objects_of c.args.self.now in
    let l = c.args.self.now.line in
    let k = c.args.section.0 in
    let s = stands (objects_of c.args.self.now) l c.args.file.0 k c.requires.laid.line c.requires.text in
    let entry = c.index-entry.ensures ∙ get_or_from_slice_get l.files.items c.args.file.0 s.entry _ s.file in
    let behind : c.index-entry.result.now + 2 * k + 1 ≡ suc (s.entry + 2 * k) = omega (arith, entry) in
    let end = c.index-end.ensures ∙ get_or_from_slice_get l.places.items (c.index-entry.result.now + 2 * k + 1) (base os (c.args.file.0 + 1) k + size_of s.section.contents) _ (ap (slice_get l.places.items) behind ∙ s.end) in
    let low = s.low in
    let all = c.requires.laid.low in
    omega (arith, end, low, all)
