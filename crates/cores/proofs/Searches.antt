-- What searches through layers and vertices found.
use Rattle.std.proofs.Common.{◌≡◌, ℕ, ◌<◌, ◌≤◌, Bool, true, false, ◌⊎◌, ◌↔◌, length, get_or, take, Option, Some, None, MatchOption, IsTrue, IfNone, sym, refl, ap, ◌∙◌, subst, inl, inr, arith}
use Rattle.std.specs.Bool.{MatchBool}
use Rattle.std.specs.List.{zip, enumerate_from, Contains, AllWithin, HoldsAt}
use Rattle.std.proofs.lemmas.Bool.{cases_lt, cases_order}
use Rattle.std.proofs.lemmas.List.{get_or_past, get_or-take, length-take}
use Rattle.std.proofs.lemmas.List.Elements.{Contains-get_or}
use Rattle.std.proofs.lemmas.Grind.{get_or_default_zero}
use Rattle.std.proofs.lemmas.List.FromFn.{length-enumerate_from, get_or-enumerate_from}
use Rattle.std.proofs.lemmas.Slice.Zip.{length-zip, get_or-zip}
use Rattle.vertex_set.specs.Sets.{Set, ◌∈◌}
use Rattle.network.specs.Networks.{Multilayer}
use Rattle.cores.specs.Cores.{Order, Vector, ValidOrder, Strong, Short}
use Rattle.cores.proofs.Theory.{short_or_strong}

module _ (layers : ℕ) (o : Order) where
  -- at this place of the list is a layer of the network that does not stand before it
  abbrev pub Fresh : ℕ × ℕ → Type 0
  Fresh p = (p.1 < layers) × (Contains (take p.0 o) p.1 → ⊥)

  -- at this place of the list is none of the network's layers, or one that stands before it
  abbrev pub Stale : ℕ × ℕ → Type 0
  Stale p = (layers ≤ p.1) ⊎ Contains (take p.0 o) p.1

  -- the place and what stands there
  placed : (i : ℕ) → i < length o → get_or (enumerate_from 0 o) i (0, 0) ≡ (i, get_or o i 0)
  placed i l = get_or-enumerate_from 0 o i (0, 0) l ∙ ap (λ (x : ℕ). (x, get_or o i 0)) (omega arith)

  -- what a search through the places of the list found
  pub order_by_places : (g : Multilayer) → layers ≡ g.layers → 1 ≤ length o → (r : Bool) → MatchBool r (AllWithin Fresh (enumerate_from 0 o) 0 (length (enumerate_from 0 o))) ((i : ℕ) × (i < length (enumerate_from 0 o)) × HoldsAt Stale (enumerate_from 0 o) i) → IsTrue r ↔ ValidOrder g o
  order_by_places g same some true all = (λ x. record { some = some; known = λ i l. omega (arith, (fresh i l).0); different = λ i j l m e. go i j l m e (cases_order i j) }, λ x. refl)
    where
      fresh : (i : ℕ) → i < length o → Fresh (i, get_or o i 0)
      fresh i l = subst Fresh (placed i l) (all i (0, 0) (omega arith) (omega (arith, length-enumerate_from 0 o)))

      apart : (i j : ℕ) → i < j → j < length o → get_or o i 0 ≡ get_or o j 0 → ⊥
      apart i j l m e = (fresh j m).1 (subst (Contains (take j o)) (get_or-take j o i 0 l ∙ e) (Contains-get_or (take j o) i 0 (omega (arith, length-take j o))))

      go : (i j : ℕ) → i < length o → j < length o → get_or o i 0 ≡ get_or o j 0 → (i ≡ j) ⊎ ((i < j) ⊎ (j < i)) → i ≡ j
      go i j l m e (inl same) = same
      go i j l m e (inr (inl a)) = absurd (apart i j a m e)
      go i j l m e (inr (inr a)) = absurd (apart j i a l (sym e))
  order_by_places g same some false (i, l, h) = (λ x. cc, λ v. absurd (go v (subst Stale (placed i within) (h (0, 0)))))
    where
      within : i < length o
      within = omega (arith, length-enumerate_from 0 o)

      go : ValidOrder g o → Stale (i, get_or o i 0) → ⊥
      go v (inl past) = omega (arith, v.known i within)
      go v (inr (j, b, e)) =
          let before : j < i = omega (arith, length-take i o) in
          omega (arith, v.different j i (omega (arith, within)) within (sym (get_or-take i o j 0 before) ∙ sym (get_or_default_zero (take i o) j (get_or o i 0) b) ∙ e))

module _ (g : Multilayer) (o : Order) (k : Vector) (s : Set) where
  -- v does not fall short within s, if it is a member
  abbrev pub Stays : ℕ → Type 0
  Stays v = v ∈ s → Short g o k s v → ⊥

  -- where a search from a up to b found none that falls short, each member there is strong
  pub strong_between : (a b : ℕ) (Q : ℕ → Type 0) (r : Option ℕ) → MatchOption r ((v : ℕ) → a ≤ v → v < b → Stays v) Q → IfNone r ((v : ℕ) → a ≤ v → v < b → v ∈ s → Strong g o k s v)
  strong_between a b Q (Some v) found = tt
  strong_between a b Q None all = λ v l m e. go v (all v l m e) (short_or_strong g o k s v)
    where
      go : (v : ℕ) → (Short g o k s v → ⊥) → Short g o k s v ⊎ Strong g o k s v → Strong g o k s v
      go v stays (inl short) = absurd (stays short)
      go v stays (inr strong) = strong

-- the strength of v within s in the layer is below the demand
abbrev pub Below : Multilayer → Set → ℕ → ℕ × ℕ → Type 0
Below g s v p = g.strength p.0 s v < p.1

-- the strength of v within s in the layer is at least the demand
abbrev pub Reaches : Multilayer → Set → ℕ → ℕ × ℕ → Type 0
Reaches g s v p = p.1 ≤ g.strength p.0 s v

-- what a search through the layers and their demands found
pub short_by_pairs : (g : Multilayer) (o : Order) (k : Vector) (s : Set) (v : ℕ) (r : Bool) → MatchBool r ((i : ℕ) × (i < length (zip o k)) × HoldsAt (Below g s v) (zip o k) i) (AllWithin (Reaches g s v) (zip o k) 0 (length (zip o k))) → IsTrue r ↔ Short g o k s v
short_by_pairs g o k s v true (i, l, h) =
    let a : i < length o = omega (arith, length-zip o k) in
    (λ x. (i, a, subst (Below g s v) (get_or-zip o k i (0, 0) a (omega (arith, length-zip o k))) (h (0, 0))), λ x. refl)
short_by_pairs g o k s v false all = (λ x. cc, λ (i, a, less). absurd (go i a less (cases_lt i (length k))))
  where
    go : (i : ℕ) → i < length o → g.strength (get_or o i 0) s v < get_or k i 0 → (i < length k) ⊎ (length k ≤ i) → ⊥
    go i a less (inl b) = omega (arith, subst (Reaches g s v) (get_or-zip o k i (0, 0) a b) (all i (0, 0) (omega arith) (omega (arith, length-zip o k))))
    go i a less (inr past) = omega (arith, get_or_past k i 0 past)
