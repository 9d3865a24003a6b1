-- Question 18: the values that a device reads with today's values.
use Prim.Native.Nat.{ℕ, ◌+◌, ◌-◌, ◌*◌, ◌^◌, ◌≤◌, ◌<◌}
use native.Mathlib.Omega.{arith}
use native.Mathlib.Decide.{ℕ_discrete}
use mathlib.Core.Path.{◌≡◌, refl, sym, ap, subst, ◌∙◌}
use mathlib.Core.Logic.{◌⊎◌, inl, inr, ⊎_elim, by_cases}
use mathlib.Core.Bool.{true, false, false≢true, true≢false}
use mathlib.Core.List.{List}
use lib.Bits.{bit_or, or_zero_r, or_lt}
use lib.ListN.{get_or}
use Rattle.model.specs.Config.{kind_of, hardcoded_to, Entry, reads, entry_place, entry_at}
use Rattle.model.specs.State.{State, held}
use Rattle.model.specs.Closure.{active, live, Collected, Reads, start, stored, own, next}
use Rattle.model.proofs.Lists.{and_l, both_true}
use Rattle.model.proofs.Entries.{entry_place_lem}
use Rattle.scene.specs.Digits.{bit, Cleared, Without}
use Rattle.scene.specs.Rules.{holds_value, opens, starts, owned}
use Rattle.scene.specs.Scene.{Scene, entry_of, count_of, In, ValuesOk, Reading, Owners}
use Rattle.described.specs.Today.{HeldWord, OwnedWord, OwnedWords, OpenedWord, OpenedBelow, OpenedWords}
use Rattle.scene.proofs.Digits.{bit_zero, or_left, or_right, or_out, or_within, or_grows, pow_bit, pow_only, some_bit}
use Rattle.scene.proofs.Ranges.{
  opens_of,
  opens-reads,
  opens-descriptor,
  live-object,
  live_test,
  owned-active,
  owned-hardcoded,
  owned_of,
  starts_holds,
  entry-there,
}

-- the word of one descriptor
pub held_none : (kind : List ℕ) (b : State) (o : ℕ) → starts kind b o ≡ false → HeldWord kind b o 0
held_none kind b o e =
    record { right = λ v h. absurd (bit_zero v h); all = λ h. absurd (false≢true (sym e ∙ h)) }

pub held_one : (kind : List ℕ) (b : State) (o w x : ℕ) → starts kind b o ≡ true → w ≡ held b o → x ≡ 2 ^ w
    → HeldWord kind b o x
held_one kind b o w x e is q =
    let p : x ≡ 2 ^ held b o = q ∙ ap (λ (n : ℕ). 2 ^ n) is in
    record {
      right = λ v h. (e, sym (pow_only (held b o) v (subst (λ (y : ℕ). bit y v ≡ 1) p h)));
      all = λ h. subst (λ (y : ℕ). bit y (held b o) ≡ 1) (sym p) (pow_bit (held b o));
    }

-- that of a device's hardcoded descriptor
module _ (kind class owner : List ℕ) (b : State) (c : ℕ) where
  pub owned_none : (o : ℕ) → (owned kind class owner b c o ≡ true → ⊥) → OwnedWord kind class owner b c o 0
  owned_none o f =
      record { right = λ v h. absurd (bit_zero v h); all = λ h. absurd (f h) }

  pub owned-held : (o x : ℕ) → owned kind class owner b c o ≡ true → HeldWord kind b o x
      → OwnedWord kind class owner b c o x
  owned-held o x e h = record { right = λ v y. (let q = h.right v y in (e, q.0, q.1)); all = λ q s. h.all s }

  pub owned-start : OwnedWords 0 kind class owner b c 0
  owned-start =
      record { right = λ v h. absurd (bit_zero v h); all = λ o i. absurd (omega (arith, i.low, i.high)) }

  -- one object more
  pub owned_more : (o x y : ℕ) → 1 ≤ o → OwnedWords (o - 1) kind class owner b c x → OwnedWord kind class owner b c o y
      → OwnedWords (o + 1 - 1) kind class owner b c (bit_or x y)
  owned_more o x y l f g =
      record {
        right = λ v h.
            ⊎_elim
            (λ q.
            let (j, i, e, s, h) = f.right v q in
            (j, record { low = i.low; high = omega (arith, i.high) }, e, s, h))
            (λ q.
            let (e, s, h) = g.right v q in
            (o, record { low = l; high = omega arith }, e, s, h))
            (or_out x y v h);
        all = λ j i e s.
            by_cases (ℕ_discrete j o)
            (λ q. or_right x y (held b j)
            (subst (λ (j : ℕ). bit y (held b j) ≡ 1) (sym q)
            (g.all (subst (λ (j : ℕ). owned kind class owner b c j ≡ true) q e)
            (subst (λ (j : ℕ). starts kind b j ≡ true) q s))))
            (λ q. or_left x y (held b j)
            (f.all j (record { low = i.low; high = omega (arith, i.high, q) }) e s));
      }

-- that of an entry
pub opened_none : (kind : List ℕ) (b : State) (e : Entry) → reads e ≡ false → OpenedWord kind b e 0
unfolding opens
opened_none kind b e off =
    record {
      right = λ w h. absurd (bit_zero w h);
      all = λ h. absurd (false≢true (sym off ∙ and_l (reads e) (holds_value (get_or kind e.object 0)) h));
    }

pub opened-held : (kind : List ℕ) (b : State) (e : Entry) (x : ℕ) → reads e ≡ true → HeldWord kind b e.object x
    → OpenedWord kind b e x
unfolding opens
opened-held kind b e x on h =
    record {
      right = λ w y.
          (let q = h.right w y in
          (both_true on (starts_holds kind b e.object q.0), q.0, q.1));
      all = λ q s. h.all s;
    }

module _ (kind count table : List ℕ) (b : State) (v : ℕ) where
  pub opened-start : OpenedBelow kind count table b v 0 0
  opened-start = record { right = λ w h. absurd (bit_zero w h); all = λ j l h. absurd (omega arith) }

  -- one entry more
  pub opened_more : (j at x y : ℕ) → at ≡ entry_place v j → In (get_or count v 0) j
      → OpenedBelow kind count table b v (j - 1) x → OpenedWord kind b (entry_at table at) y
      → OpenedBelow kind count table b v (j + 1 - 1) (bit_or x y)
  opened_more j at x y is i f g' =
      let g = subst (λ (p : ℕ). OpenedWord kind b (entry_at table p) y) is g' in
      record {
        right = λ w h. ⊎_elim (f.right w) (λ q. let (o, s, h) = g.right w q in (j, i, o, s, h)) (or_out x y w h);
        all = λ n l h o s.
            by_cases (ℕ_discrete n j)
            (λ q. or_right x y _
            (subst (λ (n : ℕ). bit y (held b (entry_at table (entry_place v n)).object) ≡ 1) (sym q)
            (g.all (subst (λ (n : ℕ). opens kind (entry_at table (entry_place v n)) ≡ true) q o)
            (subst (λ (n : ℕ). starts kind b (entry_at table (entry_place v n)).object ≡ true) q s))))
            (λ q. or_left x y _ (f.all n l (omega (arith, h, q)) o s));
      }

-- the word x has the values that device c reads
pub record Today (m : Scene) (c x : ℕ) : Type 0 where
  pub right : (v : ℕ) → bit x v ≡ 1 → Reading m c v
  pub all : (o v : ℕ) → Reads m.config m.storing m.state c o v
      → (v ≤ m.config.counts.values) × (bit x v ≡ 1)

-- values that device c reads are in the word s; the entries of those in d are still to be followed
pub record Seeing (m : Scene) (c s d : ℕ) : Type 0 where
  pub right : (v : ℕ) → bit s v ≡ 1 → Reading m c v
  pub within : (v : ℕ) → bit d v ≡ 1 → bit s v ≡ 1
  pub own : (o v : ℕ) → active m.state c ≡ true → hardcoded_to m.config c o ≡ true
      → live m.config m.state o ≡ true → held m.state o ≡ v → bit s v ≡ 1
  pub closed : (v j : ℕ) → bit s v ≡ 1 → In (count_of m v) j → (bit d v ≡ 1)
      ⊎ (opens m.config.objects.kind (entry_of m v j) ≡ true
      → starts m.config.objects.kind m.state (entry_of m v j).object ≡ true
      → bit s (held m.state (entry_of m v j).object) ≡ 1)

module _ (m : Scene) (c : ℕ) where
  abbrev kind : List ℕ
  kind = m.config.objects.kind

  abbrev starting : (o : ℕ) → In m.config.counts.objects o → starts kind m.state o ≡ true
      → live m.config m.state o ≡ true
  starting o i s = live_test m.config m.state o i ∙ s

  pub seeing_start : (x : ℕ) → OwnedWords m.config.counts.objects kind m.config.objects.class
      m.config.objects.owner m.state c x
      → Seeing m c x x
  seeing_start x f =
      record {
        right = λ v h.
            (let (o, i, e, s, q) = f.right v h in
            record {
              object = o;
              read = own (owned-active m.config m.state c o e) (owned-hardcoded m.config m.state c o i e)
                  (start (starting o i s) q);
            });
        within = λ v h. h;
        own = λ o v a h l q.
            (let i = live-object m.config m.state o l in
            subst (λ (v : ℕ). bit x v ≡ 1) q
            (f.all o i (owned_of m.config m.state c o a h)
            (sym (live_test m.config m.state o i) ∙ l)));
        closed = λ v j h i. inl h;
      }

  -- one value more
  pub seeing_more : (s d e n v y : ℕ) → ValuesOk m.config
      → v ≤ m.config.counts.values → bit d v ≡ 1 → Cleared d v e → Without y s n
      → OpenedWords kind m.config.values.count m.config.values.entries m.state v y → Seeing m c s d
      → Seeing m c (bit_or s n) (bit_or e n)
  seeing_more s d e n v y ok few here cl wo op g =
      record {
        right = λ u h.
            ⊎_elim (g.right u)
            (λ q.
            let (j, i, o, t, w) = op.right u (wo.here u q) in
            let r = g.right v (g.within v here) in
            let k = ok.object_known v j few i in
            record {
              object = (entry_of m v j).object;
              read = next (entry_of m v j) r.read (entry-there m ok.no_entries v j i)
                  (opens-reads m.config (entry_of m v j) o) (opens-descriptor m.config (entry_of m v j) k o) refl
                  (start (starting (entry_of m v j).object k t) w);
            })
            (or_out s n u h);
        within = λ u h.
            ⊎_elim (λ q. or_left s n u (g.within u (cl.rest u q))) (λ q. or_right s n u q) (or_out e n u h);
        own = λ o u a h l q. or_left s n u (g.own o u a h l q);
        closed = λ u j h i.
            ⊎_elim
            (λ q. ⊎_elim
            (λ x. ⊎_elim
            (λ z. inr (λ o t. ⊎_elim (or_left s n _) (or_right s n _)
            (wo.all _
            (opened u j z i o t))))
            (λ z. inl (or_left e n u z))
            (cl.all u x))
            (λ x. inr (λ o t. or_left s n _ (x o t)))
            (g.closed u j q i))
            (λ q. inl (or_right e n u q))
            (or_out s n u h);
      }
    where
      opened : (u j : ℕ) → u ≡ v → In (count_of m u) j → opens kind (entry_of m u j) ≡ true
          → starts kind m.state (entry_of m u j).object ≡ true
          → bit y (held m.state (entry_of m u j).object) ≡ 1
      opened u j z i o t =
          subst (λ (u : ℕ). bit y (held m.state (entry_of m u j).object) ≡ 1) (sym z)
          (op.all j i.low (subst (λ (u : ℕ). j ≤ count_of m u) z i.high)
          (subst (λ (u : ℕ). opens kind (entry_of m u j) ≡ true) z o)
          (subst (λ (u : ℕ). starts kind m.state (entry_of m u j).object ≡ true) z t))

  module _ (off : m.storing ≡ false) (known : (o : ℕ) → In m.config.counts.objects o → holds_value
      (kind_of m.config o) ≡ true
      → held m.state o ≤ m.config.counts.values) where
    collected-held : {o v : ℕ} → Collected m.config m.storing m.state o v
        → (live m.config m.state o ≡ true) × (held m.state o ≡ v)
    collected-held (start l e) = (l, e)
    collected-held (stored on e r l h d ep ew) = absurd (true≢false (sym on ∙ off))

    live_known : (o : ℕ) → live m.config m.state o ≡ true → held m.state o ≤ m.config.counts.values
    live_known o l =
        let i = live-object m.config m.state o l in
        known o i (starts_holds kind m.state o (sym (live_test m.config m.state o i) ∙ l))

    value_known : {o v : ℕ} → Collected m.config m.storing m.state o v → v ≤ m.config.counts.values
    value_known {o} q =
        let (l, e) = collected-held q in
        subst (λ (v : ℕ). v ≤ m.config.counts.values) e (live_known o l)

    pair_read : {o v : ℕ} → Reads m.config m.storing m.state c o v
        → Collected m.config m.storing m.state o v
    pair_read (own a h q) = q
    pair_read (next e r l h d ep q) = q

    seen_in : (s d : ℕ) → Seeing m c s d → ((v : ℕ) → v ≤ m.config.counts.values → bit d v ≡ 1 → ⊥) → {o v : ℕ}
        → Reads m.config m.storing m.state c o v → bit s v ≡ 1
    seen_in s d g none (own {o = o} {v = v} a h q) =
        let (l, e) = collected-held q in
        g.own o v a h l e
    seen_in s d g none (next {o = o} {v = v} {p = p} {w = w} e r l h d' ep q) =
        let b = seen_in s d g none r in
        let (lv, hv) = collected-held q in
        let (j, low, lj, hj, is) = entry_place_lem m.config v l in
        let ob : (entry_of m v j).object ≡ p = ap (λ (e : Entry). e.object) (sym is) ∙ ep in
        let op : opens kind (entry_of m v j) ≡ true =
        subst (λ (e : Entry). opens kind e ≡ true) is (opens_of m.config e h d') in
        let st : starts kind m.state (entry_of m v j).object ≡ true =
        subst (λ (o : ℕ). starts kind m.state o ≡ true) (sym ob)
        (sym (live_test m.config m.state p (live-object m.config m.state p lv)) ∙ lv) in
        ⊎_elim (λ x. absurd (none v (value_known (pair_read r)) x))
        (λ x. subst (λ (w : ℕ). bit s w ≡ 1) (ap (held m.state) ob ∙ hv) (x op st))
        (g.closed v j b (record { low = lj; high = hj }))

    -- what is seen exists
    pub seen_known : (s d v : ℕ) → Seeing m c s d → bit d v ≡ 1 → v ≤ m.config.counts.values
    seen_known s d v g h = value_known (pair_read (g.right v (g.within v h)).read)

    pub today_of_lem : (s d : ℕ) → Seeing m c s d → ((v : ℕ) → v ≤ m.config.counts.values → bit d v ≡ 1 → ⊥)
        → Today m c s
    today_of_lem s d g none =
        record { right = g.right; all = λ o v r. (value_known (pair_read r), seen_in s d g none r) }

  -- a device that does not exist reads nothing
  reader_known : Owners m → {o v : ℕ} → Reads m.config m.storing m.state c o v
      → In m.config.counts.devices c
  reader_known f (own {o = o} a h q) = f c o h
  reader_known f (next e r l h d ep q) = reader_known f r

  pub today_none : Owners m → (In m.config.counts.devices c → ⊥) → Today m c 0
  today_none f none =
      record { right = λ v h. absurd (bit_zero v h); all = λ o v r. absurd (none (reader_known f r)) }

-- each turn leaves less to do
room_less : (a b y d : ℕ) → b < a → y < 2 ^ 64 → b * 2 ^ 64 + y < a * 2 ^ 64 + d
room_less a b y d h k = omega arith

rest-less : (a e d : ℕ) → e < d → a * 2 ^ 64 + e < a * 2 ^ 64 + d
rest-less a e d h = omega arith

room_of : (s t : ℕ) → s < 2 ^ 64 → t < 2 ^ 64 → s ≤ t → (t ≡ s → ⊥) → 2 ^ 64 - t < 2 ^ 64 - s
room_of s t h k l ne = omega arith

pub today_less : (s d e n y : ℕ) → s < 2 ^ 64 → e < 2 ^ 64 → n < 2 ^ 64 → e < d → Without y s n
    → (2 ^ 64 - bit_or s n) * 2 ^ 64 + bit_or e n < (2 ^ 64 - s) * 2 ^ 64 + d
today_less s d e n y hs he hn less wo =
    by_cases (ℕ_discrete n 0)
    (λ z. rw (z, or_zero_r s, or_zero_r e) (rest-less (2 ^ 64 - s) e d less))
    (λ z.
    let i = some_bit 64 n z hn in
    room_less (2 ^ 64 - s) (2 ^ 64 - bit_or s n) (bit_or e n) d
    (room_of s (bit_or s n) hs (or_lt 64 s n hs hn) (or_grows s n)
    (λ q. wo.other i.0 i.1 (or_within n s i.0 q i.1)))
    (or_lt 64 e n he hn))
