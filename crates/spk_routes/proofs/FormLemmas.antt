-- What peers are sent of a route if no program runs.
use Rattle.std.proofs.Common.{◌≡◌, ap, ◌∙◌, ℕ, Bool, List, Option}
use Rattle.bgp_attr.specs.Routes.{Route}
use Rattle.spk_routes.specs.declared.forms.Terms.{Terms}
use Rattle.spk_routes.specs.Forms.{formed, AreAlike}

-- the same is sent by terms that are alike
pub formed_alike : (a b : Terms) (route : Route) → AreAlike a b → formed a route ≡ formed b route
formed_alike a b route h =
    let by : Bool → Bool → ℕ → ℕ → ℕ → Option (List ℕ) = λ external wide asn address pref. formed (record {
      external = external;
      wide = wide;
      local = record { number = 0; asn = asn; address = address; id = 0; kind = 0 };
      local_pref = pref;
    }) route in
    ap (λ (e : Bool). by e a.wide (a.local).asn (a.local).address a.local_pref) h.external
    ∙ ap (λ (w : Bool). by b.external w (a.local).asn (a.local).address a.local_pref) h.wide
    ∙ ap (λ (n : ℕ). by b.external b.wide n (a.local).address a.local_pref) h.asn
    ∙ ap (λ (d : ℕ). by b.external b.wide (b.local).asn d a.local_pref) h.address
    ∙ ap (λ (p : ℕ). by b.external b.wide (b.local).asn (b.local).address p) h.local_pref
