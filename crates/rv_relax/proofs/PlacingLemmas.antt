-- What `TextLine` holds of its sites is what a pass asks of them.

use Rattle.std.proofs.Common.{◌≡◌, inl, inr, ⊎_elim, ℕ, ◌*◌, ◌^◌, nat_le, Bool, true, false, not, ◌||◌, IsTrue, List, [], ◌∷◌, refl}
use Rattle.std.proofs.lemmas.Bool.{leb-true, le-leb, and_parts, and_from, or_left, or_right, or_cases}
use Rattle.rv_size_laws.specs.declared.site.Site.{Site}
use Rattle.rv_size_laws.specs.declared.site.SiteKind.{SiteKind}
use Rattle.rv_size_laws.specs.declared.site.SiteKind.TheVariants.{Call, Padding}
use Rattle.rv_size_laws.specs.Calls.{is_call, site_at, InOrder, IsOutside, LeadsOutside}
use Rattle.rv_size_laws.specs.Sites.{site_end}
use Rattle.rv_call_sizes.specs.Passes.{IsInput, LeadsLow}
use Rattle.rv_relax.specs.TextLine.{AreTextSites, are_in_line, is_outside, leads_low, leads_outside}

-- ---- what is tested stands

line_from : (from : ℕ) (sites : List Site) → InOrder from sites → are_in_line from sites ≡ true
line_from from [] order = refl
line_from from (site ∷ sites) order =
    and_from (nat_le from site.offset) (are_in_line (site_end site) sites) (le-leb from site.offset order.0) (line_from (site_end site) sites order.1)

order_from : (from : ℕ) (sites : List Site) → are_in_line from sites ≡ true → InOrder from sites
order_from from [] h = tt
order_from from (site ∷ sites) h =
    let both = and_parts (nat_le from site.offset) (are_in_line (site_end site) sites) h in
    (leb-true from site.offset both.0, order_from (site_end site) sites both.1)

-- of a call, a site that is no other call may stand anywhere
told : (old : ℕ) (site : Site) (b : Bool) → (IsTrue b → IsOutside old site) → (not b || is_outside old site) ≡ true
told old site false h = refl
told old site true h =
    ⊎_elim
    (λ before. or_left (nat_le old site.offset) (nat_le (site_end site) old) (le-leb old site.offset before))
    (λ after. or_right (nat_le old site.offset) (nat_le (site_end site) old) (le-leb (site_end site) old after)) (h refl)

meant : (old : ℕ) (site : Site) (b : Bool) → (not b || is_outside old site) ≡ true → IsTrue b → IsOutside old site
meant old site false h call = absurd (cc)
meant old site true h call =
    ⊎_elim (λ before. inl (leb-true old site.offset before)) (λ after. inr (leb-true (site_end site) old after))
    (or_cases (nat_le old site.offset) (nat_le (site_end site) old) h)

outside_from : (kind : SiteKind) (site : Site) → LeadsOutside kind site → leads_outside kind site ≡ true
outside_from (Call call) site h = told call.target site (is_call site.kind) h
outside_from (Padding padding) site h = refl

outside_meant : (kind : SiteKind) (site : Site) → leads_outside kind site ≡ true → LeadsOutside kind site
outside_meant (Call call) site h = meant call.target site (is_call site.kind) h
outside_meant (Padding padding) site h = tt

low_from : (kind : SiteKind) → LeadsLow kind → leads_low kind ≡ true
low_from (Call call) h = le-leb call.target (9 * 2 ^ 123) h
low_from (Padding padding) h = refl

low_meant : (kind : SiteKind) → leads_low kind ≡ true → LeadsLow kind
low_meant (Call call) h = leb-true call.target (9 * 2 ^ 123) h
low_meant (Padding padding) h = tt

-- ---- all sites

pub text_sites_from : (sites : List Site) → IsInput sites → AreTextSites sites
text_sites_from sites input = record {
  in_line = line_from 0 sites input.text.in_order;
  outside = λ i j. outside_from (site_at sites i).kind (site_at sites j) (input.text.outside i j);
  ends = input.ends;
  targets = λ i. low_from (site_at sites i).kind (input.targets i);
}

pub input_from : (sites : List Site) → AreTextSites sites → IsInput sites
input_from sites text_line = record {
  text = record {
    in_order = order_from 0 sites text_line.in_line;
    outside = λ i j. outside_meant (site_at sites i).kind (site_at sites j) (text_line.outside i j);
  };
  ends = text_line.ends;
  targets = λ i. low_meant (site_at sites i).kind (text_line.targets i);
}
