-- Cores exist, are one, and lie inside each other.
use Rattle.std.proofs.Common.{◌≡◌, ℕ, zero, suc, ◌+◌, ◌<◌, min, true, false, not, eqb, ◌⊎◌, length, get_or, sym, refl, ap, ◌∙◌, subst, inl, inr, le_trans, not-suc-le-zero, below_more, arith}
use Rattle.std.proofs.lemmas.Bool.{ltb-true, cases_lt, cases_Bool, and_parts, and_from, ne_eqb, not_from_false, both_ways}
use Rattle.vertex_set.specs.Sets.{Set, ◌∈◌, ◌⊆◌, Same, below, ◌∩◌, without_vertex, count}
use Rattle.vertex_set.proofs.Counts.{count_without}
use Rattle.network.specs.Networks.{Multilayer, Duties}
use Rattle.cores.specs.Cores.{Order, Vector, Strong, Short, EachStrong, Meets, Core, CoreWithin}
use Rattle.cores.specs.Theorems.{NoHigher}

-- of the numbers below n one has P, or each has Q
pub some_or_each : (P Q : ℕ → Type 0) → ((i : ℕ) → P i ⊎ Q i) → (n : ℕ) → ((i : ℕ) × (i < n) × P i) ⊎ ((i : ℕ) → i < n → Q i)
some_or_each P Q either zero = inr (λ i l. absurd (not-suc-le-zero l))
some_or_each P Q either (suc n) = go (either n) (some_or_each P Q either n)
  where
    go : P n ⊎ Q n → ((i : ℕ) × (i < n) × P i) ⊎ ((i : ℕ) → i < n → Q i) → ((i : ℕ) × (i < suc n) × P i) ⊎ ((i : ℕ) → i < suc n → Q i)
    go (inl p) x = inl (n, omega arith, p)
    go (inr q) (inl (i, l, p)) = inl (i, omega arith, p)
    go (inr q) (inr f) = inr (λ i l. below_more Q n f q i (omega arith))

pub meets_lower : (g : Multilayer) (o : Order) (j k : Vector) (s : Set) → NoHigher o j k → Meets g o k s → Meets g o j s
meets_lower g o j k s low m = record { inside = m.inside; strong = λ v e i l. le_trans (low i l) (m.strong v e i l) }

-- all vertices of the network fit into a set
pub all_fit : (highest : ℕ) (g : Multilayer) → Duties highest g → (n : ℕ) → n ≡ g.vertices → (all : Set) → Same all (below (min n 1024)) → Same all (below g.vertices)
all_fit highest g d n same all is v = is v ∙ ap (λ (x : ℕ). below x v) (omega (arith, d.few_vertices))

-- what is left of a, among all vertices of the network, is the core within a once every member is strong
pub settled : (g : Multilayer) (o : Order) (k : Vector) (a all b c : Set) → Same all (below g.vertices) → Same b (a ∩ all) → c ⊆ b → ((s : Set) → Meets g o k s → s ⊆ b → s ⊆ c) → EachStrong g o k c → CoreWithin g o k a c
settled g o k a all b c is same sub largest strong = record {
  meets = record { inside = inside; strong = λ v e. strong v (ltb-true v g.vertices (inside v e)) e };
  inside = λ v e. (parts v e).0;
  largest = λ s m within. largest s m (λ v e. same v ∙ and_from (a v) _ (within v e) (is v ∙ m.inside v e));
}
  where
    parts : (v : ℕ) → v ∈ c → (v ∈ a) × (v ∈ all)
    parts v e = and_parts (a v) _ (sym (same v) ∙ sub v e)

    inside : c ⊆ below g.vertices
    inside v e = sym (is v) ∙ (parts v e).1

-- the core within a group that has all vertices is the core
pub core_within_all : (g : Multilayer) (o : Order) (k : Vector) (a c : Set) → below g.vertices ⊆ a → CoreWithin g o k a c → Core g o k c
core_within_all g o k a c all w = record { meets = w.meets; largest = λ s m. w.largest s m (λ v e. all v (m.inside v e)) }

-- v falls short within s, or is strong there
pub short_or_strong : (g : Multilayer) (o : Order) (k : Vector) (s : Set) (v : ℕ) → Short g o k s v ⊎ Strong g o k s v
short_or_strong g o k s v = some_or_each _ _ (λ i. cases_lt (g.strength (get_or o i 0) s v) (get_or k i 0)) (length o)

module _ (highest : ℕ) (g : Multilayer) (d : Duties highest g) (o : Order) (k : Vector) where
  -- whoever falls short within s is in no group inside s that meets the vector
  pub short_out : (s : Set) (v : ℕ) → Short g o k s v → (x : Set) → Meets g o k x → x ⊆ s → x ⊆ without_vertex s v
  short_out s v (i, l, less) x m sub u e = and_from (s u) (not (eqb u v)) (sub u e) (not_from_false _ (ne_eqb u v other))
    where
      other : u ≡ v → ⊥
      other f = absurd (omega (arith, m.strong v (subst (λ w. w ∈ x) f e) i l, d.monotone (get_or o i 0) x s v sub))

  -- v is a member that falls short, or is strong if it is a member
  falls_or_stays : (s : Set) (v : ℕ) → ((v ∈ s) × Short g o k s v) ⊎ (v ∈ s → Strong g o k s v)
  falls_or_stays s v = go (cases_Bool (s v)) (short_or_strong g o k s v)
    where
      go : (s v ≡ true) ⊎ (s v ≡ false) → Short g o k s v ⊎ Strong g o k s v → ((v ∈ s) × Short g o k s v) ⊎ (v ∈ s → Strong g o k s v)
      go (inl e) (inl short) = inl (e, short)
      go (inl e) (inr strong) = inr (λ m. strong)
      go (inr e) x = inr (λ m. absurd (both_ways (s v) e m))

  -- one vertex that falls short is taken away after the other, until none does
  peeled : (fuel : ℕ) (s : Set) → s ⊆ below g.vertices → ((x : Set) → Meets g o k x → x ⊆ s) → count s g.vertices < fuel → (c : Set) × Core g o k c
  peeled zero s inside holds l = absurd (not-suc-le-zero l)
  peeled (suc fuel) s inside holds l = go (peeled fuel) (some_or_each _ _ (falls_or_stays s) g.vertices)
    where
      go : ((t : Set) → t ⊆ below g.vertices → ((x : Set) → Meets g o k x → x ⊆ t) → count t g.vertices < fuel → (c : Set) × Core g o k c) → ((v : ℕ) × (v < g.vertices) × ((v ∈ s) × Short g o k s v)) ⊎ EachStrong g o k s → (c : Set) × Core g o k c
      go again (inr all) = (s, record { meets = record { inside = inside; strong = λ v e. all v (ltb-true v g.vertices (inside v e)) e }; largest = holds })
      go again (inl (v, m, (e, short))) = again (without_vertex s v) (λ u f. inside u (and_parts (s u) _ f).0) (λ x q. short_out s v short x q (holds x q)) (omega (arith, fewer))
        where
          fewer : count s g.vertices ≡ count (without_vertex s v) g.vertices + 1
          fewer = count_without s (without_vertex s v) v g.vertices e m (λ u. refl)

  pub core_exists : (c : Set) × Core g o k c
  core_exists = peeled (suc (count (below g.vertices) g.vertices)) (below g.vertices) (λ v m. m) (λ x q. q.inside) (omega arith)
