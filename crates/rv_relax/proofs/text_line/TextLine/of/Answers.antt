use Rattle.std.proofs.Common.{ℕ, ◌*◌, ◌^◌, List, map, refl}
use Rattle.rv_size_laws.specs.declared.site.Site.{Site}
use Rattle.rv_size_laws.specs.declared.site.SiteKind.{SiteKind}
use Rattle.rv_size_laws.specs.declared.site.SiteKind.TheVariants.{Call, Padding}
use Rattle.rv_size_laws.specs.Calls.{IsText, site_at}
use Rattle.rv_link_laws.specs.Within.{IsWithin, LeadsWithin}
use Rattle.rv_link_sites.proofs.TargetsLemmas.{is_text}
use Rattle.rv_call_sizes.specs.Passes.{IsInput, LeadsLow}
use Rattle.rv_relax.specs.Plan.{objects_of_line}
use Rattle.rv_relax.proofs.PlacingLemmas.{text_sites_from}
use Rattle.rv_relax.proofs.text_line.TextLine.of.Goals as goal

leads_low : (kind : SiteKind) → LeadsWithin (9 * 2 ^ 123) kind → LeadsLow kind
leads_low (Call call) h = h
leads_low (Padding padding) h = tt

input : (sites : List Site) → IsText sites → ((i : ℕ) → IsWithin (9 * 2 ^ 123) (site_at sites i)) → IsInput sites
input sites text within = record {
  text = text;
  ends = λ i. (within i).end;
  targets = λ i. leads_low (site_at sites i).kind (within i).leads;
}

pub invariant_of-result : goal.invariant_of-result
invariant_of-result c =
    let found = c.in_ok-sites.ensures in
    let sites = c.in_ok-sites.sites.items in
    record { line = found.sites; apart = text_sites_from sites (input sites (is_text c.args.objects.now sites found.sites) found.within) }

pub returns : goal.returns
unfolding objects_of_line
returns c = refl
