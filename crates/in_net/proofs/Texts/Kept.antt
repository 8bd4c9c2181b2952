-- The reading keeps its parts: joints and variables of a text that are among the spots.
use Rattle.std.proofs.Common.{◌≡◌, ◌≢◌, ℕ, ◌+◌, ◌<◌, List, [], ◌++◌, length, length-append, refl, sym, ◌∙◌, ap, subst, arith}
use Rattle.in_syntax.specs.declared.places.Place.{Place}
use Rattle.in_syntax.specs.declared.tree.Term.{Term}
use Rattle.in_symbols.specs.Names.{name_in}
use Rattle.in_net.specs.declared.joining.Link.{Link}
use Rattle.in_net.specs.declared.reading.TextSpot.{TextSpot}
use Rattle.in_net.specs.declared.reading.TextSpot.TheVariants.{Occurrence}
use Rattle.in_net.specs.declared.reading.Reading.{Reading}
use Rattle.in_net.specs.Building.{nth_link, nth_spot, no_spot}
use Rattle.in_net.specs.Joining.{links_of}
use Rattle.in_net.specs.Reading.{with_joint}
use Rattle.in_net.specs.TextNet as text
use Rattle.in_net.specs.TextNet.{name_of, place_of}
use Rattle.in_net.proofs.Wiring.Linked.{at_front, at_first, at_third, links_joint}
use Rattle.in_net.proofs.Wiring.Sound.{named}

-- two spots are joined, at that place
pub record IsSettled (r : Reading) (x y : text.TextSpot) (p : Place) : Type 0 where
  pub spot : ℕ
  pub inside : spot < length r.spots
  pub linked : (nth_link (links_of r) spot).to ≢ spot
  pub to_inside : (nth_link (links_of r) spot).to < length r.spots
  pub one : named (nth_spot r.spots spot) ≡ x
  pub other : named (nth_spot r.spots (nth_link (links_of r) spot).to) ≡ y
  pub place : (nth_link (links_of r) spot).place ≡ p

-- a variable's occurrence is at a spot, with the number of its name
pub record IsHeldAt (r : Reading) (v : Term) : Type 0 where
  pub spot : ℕ
  pub number : ℕ
  pub inside : spot < length r.spots
  pub is : nth_spot r.spots spot ≡ Occurrence number (place_of v)
  pub known : number < length r.names
  pub name : name_in number r.names ≡ name_of v

pub record Keeps (before after : Reading) : Type 0 where
  pub settled : (x y : text.TextSpot) (p : Place) → IsSettled before x y p → IsSettled after x y p
  pub held : (v : Term) → IsHeldAt before v → IsHeldAt after v

pub keeps_both : (a b c : Reading) → Keeps a b → Keeps b c → Keeps a c
keeps_both a b c h k = record { settled = λ x y p s. k.settled x y p (h.settled x y p s); held = λ v s. k.held v (h.held v s) }

pub keeps_itself : (r : Reading) → Keeps r r
keeps_itself r = record { settled = λ x y p s. s; held = λ v s. s }

-- spots and names that are added
pub keeps_more : (before after : Reading) (more : List TextSpot) (names : List (List ℕ)) → after.spots ≡ before.spots ++ more → after.names ≡ before.names ++ names →
    ((i : ℕ) → i < length before.spots → nth_link (links_of after) i ≡ nth_link (links_of before) i) → Keeps before after
keeps_more before after more names grown named_on links = record {
  settled = λ x y p s.
      let here = links s.spot s.inside in
      record {
        spot = s.spot;
        inside = wider s.spot s.inside;
        linked = λ e. s.linked (sym (ap (λ (l : Link). l.to) here) ∙ e);
        to_inside = subst (λ (l : Link). l.to < length after.spots) (sym here) (wider (nth_link (links_of before) s.spot).to s.to_inside);
        one = ap named (still s.spot s.inside) ∙ s.one;
        other = ap (λ (l : Link). named (nth_spot after.spots l.to)) here ∙ ap named (still (nth_link (links_of before) s.spot).to s.to_inside) ∙ s.other;
        place = ap (λ (l : Link). l.place) here ∙ s.place;
      };
  held = λ v s. record {
    spot = s.spot;
    number = s.number;
    inside = wider s.spot s.inside;
    is = still s.spot s.inside ∙ s.is;
    known = let e = ap length named_on in let f = length-append before.names names in let k = s.known in omega (arith, e, f, k);
    name = ap (λ z. name_in s.number z) named_on ∙ at_front before.names names s.number [] s.known ∙ s.name;
  };
}
  where
    wider : (i : ℕ) → i < length before.spots → i < length after.spots
    wider i lt = let e = ap length grown in let f = length-append before.spots more in omega (arith, lt, e, f)

    still : (i : ℕ) → i < length before.spots → nth_spot after.spots i ≡ nth_spot before.spots i
    still i lt = ap (λ z. nth_spot z i) grown ∙ at_front before.spots more i no_spot lt

-- two spots that were joined to none are joined
pub keeps_joint : (r : Reading) (one port other : ℕ) (place : Place) → (nth_link (links_of r) (one + port)).to ≡ one + port → (nth_link (links_of r) other).to ≡ other → Keeps r (with_joint r one port other place)
keeps_joint r one port other place one_alone other_alone = record {
  settled = λ x y p s.
      let here : nth_link (links_of (with_joint r one port other place)) s.spot ≡ nth_link (links_of r) s.spot =
      ap (λ z. nth_link z s.spot) (links_joint r one port other place)
      ∙ at_third (links_of r) (one + port) other place s.spot (λ e. s.linked (ap (λ k. (nth_link (links_of r) k).to) e ∙ one_alone ∙ sym e)) (λ e. s.linked (ap (λ k. (nth_link (links_of r) k).to) e ∙ other_alone ∙ sym e)) in
      record {
        spot = s.spot;
        inside = s.inside;
        linked = λ e. s.linked (sym (ap (λ (l : Link). l.to) here) ∙ e);
        to_inside = subst (λ (l : Link). l.to < length r.spots) (sym here) s.to_inside;
        one = s.one;
        other = ap (λ (l : Link). named (nth_spot r.spots l.to)) here ∙ s.other;
        place = ap (λ (l : Link). l.place) here ∙ s.place;
      };
  held = λ v s. record { spot = s.spot; number = s.number; inside = s.inside; is = s.is; known = s.known; name = s.name };
}

-- and they are joined
pub settled_joint : (r : Reading) (one port other : ℕ) (place : Place) → one + port < length (links_of r) → other < length (links_of r) → length (links_of r) ≡ length r.spots → one + port ≢ other →
    IsSettled (with_joint r one port other place) (named (nth_spot r.spots (one + port))) (named (nth_spot r.spots other)) place
settled_joint r one port other place a c size apart =
    let here : nth_link (links_of (with_joint r one port other place)) (one + port) ≡ record { to = other; place = place } =
    ap (λ z. nth_link z (one + port)) (links_joint r one port other place) ∙ at_first (links_of r) (one + port) other place a c apart in
    record {
      spot = one + port;
      inside = omega (arith, a, size);
      linked = λ e. apart (sym (sym (ap (λ (l : Link). l.to) here) ∙ e));
      to_inside = subst (λ (l : Link). l.to < length r.spots) (sym here) (omega (arith, c, size));
      one = refl;
      other = ap (λ (l : Link). named (nth_spot r.spots l.to)) here;
      place = ap (λ (l : Link). l.place) here;
    }
