-- Question 18: what the entries that a device reads offer, and what is described by it. Assumes nothing.
use Prim.Native.Nat.{ℕ, ◌+◌, ◌-◌, ◌^◌, ◌≤◌, ◌<◌}
use native.Mathlib.Omega.{arith}
use native.Mathlib.Decide.{ℕ_discrete}
use mathlib.Core.Path.{◌≡◌, refl, sym, subst, ◌∙◌}
use mathlib.Core.Logic.{◌⊎◌, inl, inr, ⊎_elim, by_cases}
use mathlib.Core.Bool.{Bool, true, false, not, ◌&&◌, ◌||◌, false≢true}
use mathlib.Core.List.{List}
use lib.Bits.{bit_or}
use lib.Dec.{eqb}
use lib.ListN.{get_or, length, set, length-set, replicate, get_or-eq_default}
use lib.Seq.{get_or-set_same}
use borrow.Author.Tests.{eqb-true, eqb-false, eq-eqb, ne_eqb}
use borrow.Author.Tests
use Rattle.model.specs.Config.{kind_of, most_values, Entry, reads, writes, entry_place, entry_at}
use Rattle.model.specs.State.{State}
use Rattle.model.specs.Closure.{described}
use Rattle.model.specs.Questions.{is_kind, read_entry, write_entry}
use Rattle.model.specs.declared.Devices.{Devices}
use Rattle.model.specs.declared.Config.{Config}
use Rattle.model.proofs.Lists.{not-true, and_l, and_r, both_true}
use Rattle.model.proofs.Lists
use Rattle.model.proofs.Entries.{entry_place_lem}
use Rattle.model.proofs.ClosureExact.{described_exact}
use Rattle.scene.specs.Digits.{bit, Cleared, Without, Has}
use Rattle.scene.specs.Scene.{Scene, entry_of, count_of, In, ValuesOk, object_slots}
use Rattle.scene.specs.Devices.{with_devices}
use Rattle.described.specs.declared.offers.Transfer.{Transfer}
use Rattle.described.specs.declared.offers.Transfer.TheVariants.{Read, Write}
use Rattle.described.specs.Today.{wanted, today}
use Rattle.described.specs.Offers.{read_digit, Offer, Put, Noted, NotedBelow, NotedAll, Offered}
use Rattle.scene.proofs.Digits.{bit_zero, or_left, or_right, or_out, pow_bit, pow_only, some_bit}
use Rattle.scene.proofs.Ranges.{entry-there}
use Rattle.scene.proofs.Devices.{listed_any, reads_any}
use Rattle.scene.proofs.Widening.{set_word, wider_set, wider_none, wider_then, no_digit}
use Rattle.described.proofs.Describing.{Today}

-- a digit is put into a word
pub put_one : (t : List ℕ) (o k x : ℕ) → o < length t → x ≡ 2 ^ k
    → Put true o k t (set t o (bit_or (get_or t o 0) x))
put_one t o k x few is =
    record {
      long = length-set t o _;
      wider = wider_set t o x few;
      all = λ e.
          subst (λ (y : ℕ). bit y k ≡ 1) (sym (get_or-set_same t o _ 0 few))
          (or_right (get_or t o 0) x k (subst (λ (y : ℕ). bit y k ≡ 1) (sym is) (pow_bit k)));
      only = set_word (λ j y. (n : ℕ) → bit y n ≡ 1 → Has t j n ⊎ ((true ≡ true) × (o ≡ j) × (n ≡ k))) t o _ few
          (λ n h. ⊎_elim inl (λ q. inr (refl, refl, pow_only k n (subst (λ (y : ℕ). bit y n ≡ 1) is q)))
          (or_out (get_or t o 0) x n h)) (λ j n h. inl h);
    }

pub put_none : {b : Bool} (o k : ℕ) {t : List ℕ} → b ≡ false → Put b o k t t
put_none o k off =
    record {
      long = refl;
      wider = wider_none;
      all = λ e. absurd (false≢true (sym off ∙ e));
      only = λ j n h. inl h;
    }

pub put_if : {b : Bool} (o k : ℕ) {t t' : List ℕ} → b ≡ true → Put true o k t t' → Put b o k t t'
put_if o k {t} {t'} on p = subst (λ (b : Bool). Put b o k t t') (sym on) p

pub put_same : {b : Bool} {o p k l : ℕ} {t t' : List ℕ} → o ≡ p → k ≡ l → Put b o k t t' → Put b p l t t'
put_same {b} {p = p} {k = k} {t = t} {t' = t'} e f h =
    subst (λ (l : ℕ). Put b p l t t') f (subst (λ (p : ℕ). Put b p k t t') e h)

-- an entry is put down
pub noted_both : (e : Entry) {t t' t'' : List ℕ} → Put (writes e) e.object e.value t t'
    → Put (reads e) e.object read_digit t' t'' → Noted e t t''
noted_both e {t' = t'} {t'' = t''} w r =
    record {
      long = r.long ∙ w.long;
      wider = wider_then w.wider r.wider;
      all = λ k. ⊎_elim
          (λ q. subst (λ (k : ℕ). Has t'' e.object k) (sym q.1) (r.all q.0))
          (λ q. r.wider.kept e.object k
          (subst (λ (k : ℕ). Has t' e.object k) (sym q.1) (w.all q.0)));
      only = λ o k h.
          ⊎_elim (λ q. ⊎_elim inl (λ p. inr (p.1, inr (p.0, p.2))) (w.only o k q))
          (λ q. inr (q.1, inl (q.0, q.2))) (r.only o k h);
    }

module _ (count table : List ℕ) (v : ℕ) where
  pub noted-start : (t : List ℕ) → NotedBelow count table v 0 t t
  noted-start t =
      record {
        long = refl;
        wider = wider_none;
        all = λ j k l h. absurd (omega arith);
        only = λ o k h. inl h;
      }

  -- one entry more
  pub noted_more : (j at : ℕ) {t t' t'' : List ℕ} → at ≡ entry_place v j → In (get_or count v 0) j
      → NotedBelow count table v (j - 1) t t' → Noted (entry_at table at) t' t''
      → NotedBelow count table v (j + 1 - 1) t t''
  noted_more j at {t} {t'} {t''} is i f g' =
      let g = subst (λ (p : ℕ). Noted (entry_at table p) t' t'') is g' in
      record {
        long = g.long ∙ f.long;
        wider = wider_then f.wider g.wider;
        all = λ n k l h q.
            by_cases (ℕ_discrete n j)
            (λ z. subst (λ (n : ℕ). Has t'' (entry_at table (entry_place v n)).object k) (sym z)
            (g.all k (subst (λ (n : ℕ). Offer (entry_at table (entry_place v n)) k) z q)))
            (λ z. g.wider.kept _ k (f.all n k l (omega (arith, h, z)) q));
        only = λ o k h. ⊎_elim (f.only o k) (λ q. inr (j, i, q.0, q.1)) (g.only o k h);
      }

-- the entries of the values in the word s, but for those in d, were put down
pub record Noting (m : Scene) (s d : ℕ) (t : List ℕ) : Type 0 where
  pub long : length t ≡ object_slots
  pub right : (o k : ℕ) → Has t o k
      → (v j : ℕ) × (bit s v ≡ 1) × In (count_of m v) j × ((entry_of m v j).object ≡ o) × Offer (entry_of m v j) k
  pub all : (v j k : ℕ) → bit s v ≡ 1 → In (count_of m v) j
      → (bit d v ≡ 1) ⊎ (Offer (entry_of m v j) k → Has t (entry_of m v j).object k)

module _ (m : Scene) where
  pub noting_start : (x : ℕ) → Noting m x x (replicate object_slots 0)
  noting_start x =
      record {
        long = refl;
        right = λ o k h. absurd (no_digit object_slots o k h);
        all = λ v j k h i. inl h;
      }

  -- one value more
  pub noting_more : (s d e n v : ℕ) {t t' : List ℕ} → bit s v ≡ 1 → Cleared d v e
      → NotedAll m.config.values.count m.config.values.entries v t t' → Noting m s d t
      → Noting m (bit_or s n) (bit_or e n) t'
  noting_more s d e n v {t} {t'} here cl f g =
      record {
        long = f.long ∙ g.long;
        right = λ o k h.
            ⊎_elim
            (λ q. let (u, j, b, i, eo, a) = g.right o k q in (u, j, or_left s n u b, i, eo, a))
            (λ q. let (j, i, eo, a) = q in (v, j, or_left s n v here, i, eo, a))
            (f.only o k h);
        all = λ u j k h i.
            ⊎_elim
            (λ q. ⊎_elim
            (λ x. ⊎_elim (λ z. inr (put u j k z i)) (λ z. inl (or_left e n u z)) (cl.all u x))
            (λ x. inr (λ a. f.wider.kept _ k (x a)))
            (g.all u j k q i))
            (λ q. inl (or_right e n u q))
            (or_out s n u h);
      }
    where
      put : (u j k : ℕ) → u ≡ v → In (count_of m u) j → Offer (entry_of m u j) k → Has t' (entry_of m u j).object k
      put u j k z i a =
          subst (λ (u : ℕ). Has t' (entry_of m u j).object k) (sym z)
          (f.all j k i.low (subst (λ (u : ℕ). j ≤ count_of m u) z i.high)
          (subst (λ (u : ℕ). Offer (entry_of m u j) k) z a))

  module _ (c : ℕ) where
    -- a device that reads nothing
    pub offered_none : Today m c 0 → Offered m c (replicate object_slots 0)
    offered_none f =
        record {
          long = refl;
          right = λ n k h. absurd (no_digit object_slots n k h);
          all = λ o v e r l. absurd (bit_zero v (f.all o v r).1);
        }

    pub offered_of : (s d : ℕ) (t : List ℕ) → ValuesOk m.config
        → Today m c s → ((v : ℕ) → v ≤ m.config.counts.values → bit d v ≡ 1 → ⊥) → Noting m s d t → Offered m c t
    offered_of s d t ok f none g =
        record {
          long = g.long;
          right = λ n k h.
              (let (v, j, b, i, eo, a) = g.right n k h in
              let r = f.right v b in
              (r.object, v, entry_of m v j, r.read, entry-there m ok.no_entries v j i, eo, a));
          all = λ o v e r l.
              (let (few, b) = f.all o v r in
              let (j, low, lj, hj, is) = entry_place_lem m.config v l in
              let i : In (count_of m v) j = record { low = lj; high = hj } in
              let small : (entry_of m v j).value ≤ most_values = omega (arith, ok.stored_known v j few i, ok.few-values)
              in (
                subst (λ (e : Entry). e.value ≤ most_values) (sym is) small,
                λ k a. subst (λ (e : Entry). Has t e.object k) (sym is)
                    (⊎_elim (λ x. absurd (none v few x)) (λ q. q (subst (λ (e : Entry). Offer e k) is a))
                    (g.all v j k b i)),
              ));
        }

-- a table is right whatever the devices' hardcoded values and serials are
pub offered_any : (config : Config) (b : State) (c : ℕ) {t : List ℕ} → Offered (today config b) c t → (d : Devices)
    → Offered (today (with_devices d config) b) c t
offered_any config b c f d =
    record {
      long = f.long;
      right = λ n k h.
          (let (o, v, e, r, l, eo, a) = f.right n k h in
          (o, v, e, reads_any config config.devices d r, listed_any config config.devices d v l, eo, a));
      all = λ o v e r l.
          f.all o v e (reads_any config d config.devices r) (listed_any config d config.devices v l);
    }

-- two tests that say yes in the same cases
same_test : (r s : Bool) → (r ≡ true → s ≡ true) → (s ≡ true → r ≡ true) → r ≡ s
same_test true s f g = sym (f refl)
same_test false s f g = sym (not-true s (λ h. false≢true (g h)))

-- what is described
module _ (config : Config) (b : State) (c : ℕ) (t : List ℕ)
    (of : Offered (today config b) c t) where
  -- an entry that passes is offered by a digit
  some_of : (ok : Entry → Bool) (n k : ℕ) → Has t n k
      → ((e : Entry) → e.object ≡ n → e.value ≤ most_values → Offer e k → ok e ≡ true)
      → described config b c ok ≡ true
  some_of ok n k h f =
      let (o, v, e, r, l, eo, a) = of.right n k h in
      (described_exact config b c ok).1 (o, v, e, r, l, f e eo (of.all o v e r l).0 a)

  some_from : (ok : Entry → Bool) → described config b c ok ≡ true
      → (e : Entry) × (ok e ≡ true) × (e.value ≤ most_values) × ((k : ℕ) → Offer e k → Has t e.object k)
  some_from ok h =
      let (o, v, e, r, l, k) = (described_exact config b c ok).0 h in
      let q = of.all o v e r l in
      (e, k, q.0, q.1)

  module _ (n w : ℕ) where
    abbrev x : ℕ
    x = get_or t n 0

    -- the parts of the test of a write
    write_object : (e : Entry) → write_entry config n w e ≡ true → e.object ≡ n
    write_object e h =
        eqb-true e.object n
        (and_l (eqb e.object n) (writes e) (and_l (eqb e.object n && writes e)
        (not (is_kind config 1 n) || eqb e.value w) h))

    write_writes : (e : Entry) → write_entry config n w e ≡ true → writes e ≡ true
    write_writes e h =
        and_r (eqb e.object n) (writes e) (and_l (eqb e.object n && writes e)
        (not (is_kind config 1 n) || eqb e.value w) h)

    write_value : (e : Entry) → kind_of config n ≡ 1 → write_entry config n w e ≡ true → e.value ≡ w
    write_value e k h =
        let f : (not (is_kind config 1 n) || eqb e.value w) ≡ true = and_r (eqb e.object n && writes e)
        (not (is_kind config 1 n) || eqb e.value w) h in
        eqb-true e.value w (rw (eq-eqb (kind_of config n) 1 k) at f)

    write_of : (e : Entry) → e.object ≡ n → writes e ≡ true
        → (not (is_kind config 1 n) || eqb e.value w) ≡ true → write_entry config n w e ≡ true
    write_of e o q f = both_true (both_true (eq-eqb e.object n o) q) f

    -- the digit of the stored value
    write_digit : (e : Entry) → write_entry config n w e ≡ true → ((k : ℕ) → Offer e k → Has t e.object k)
        → bit x e.value ≡ 1
    write_digit e h f =
        subst (λ (o : ℕ). Has t o e.value) (write_object e h) (f e.value (inr (write_writes e h, refl)))

    read-digit : (e : Entry) → read_entry n e ≡ true → ((k : ℕ) → Offer e k → Has t e.object k)
        → bit x read_digit ≡ 1
    read-digit e h f =
        subst (λ (o : ℕ). Has t o read_digit) (eqb-true e.object n (and_l (eqb e.object n) (reads e) h))
        (f read_digit (inl (and_r (eqb e.object n) (reads e) h, refl)))

    pub described-read : eqb (bit x read_digit) 1 ≡ described config b c (read_entry n)
    described-read =
        same_test _ _
        (λ h. some_of (read_entry n) n read_digit (eqb-true (bit x read_digit) 1 h)
        (λ e o small. ⊎_elim (λ q. both_true (eq-eqb e.object n o) q.0)
        (λ q. absurd (omega (arith, small, q.1)))))
        (λ h. let (e, k, small, f) = some_from (read_entry n) h in
        eq-eqb (bit x read_digit) 1 (read-digit e k f))

    -- of kind 1: the digit of the value
    pub described-value : kind_of config n ≡ 1 → w < read_digit
        → eqb (bit x w) 1 ≡ described config b c (write_entry config n w)
    described-value is low =
        same_test _ _
        (λ h. some_of (write_entry config n w) n w (eqb-true (bit x w) 1 h)
        (λ e o small. ⊎_elim (λ q. absurd (omega (arith, q.1)))
        (λ q. write_of e o q.0
        (Lists.or_right (not (is_kind config 1 n)) (eqb e.value w) (eq-eqb e.value w (sym q.1))))))
        (λ h. let (e, k, small, f) = some_from (write_entry config n w) h in
        eq-eqb (bit x w) 1 (subst (λ (j : ℕ). bit x j ≡ 1) (write_value e is k) (write_digit e k f)))

    pub described_large : kind_of config n ≡ 1 → read_digit ≤ w → false ≡ described config b c (write_entry config n w)
    described_large is high =
        sym (not-true _ (λ h. let (e, k, small, f) = some_from (write_entry config n w) h in
        omega (arith, small, write_value e is k)))

    -- of another kind: any digit of a value
    pub described-any : (kind_of config n ≡ 1 → ⊥) → (y : ℕ) → y < 2 ^ 64 → Without x (2 ^ read_digit) y
        → not (eqb y 0) ≡ described config b c (write_entry config n w)
    described-any other y small wo =
        same_test _ _
        (λ h. let (k, on) = some_bit 64 y (eqb-false y 0 (Tests.not-true (eqb y 0) h)) small in
        some_of (write_entry config n w) n k (wo.here k on)
        (λ e o few. ⊎_elim
        (λ q. absurd (wo.other k on (subst (λ (k : ℕ). bit (2 ^ read_digit) k ≡ 1) (sym q.1) (pow_bit read_digit))))
        (λ q. write_of e o q.0 (rw (ne_eqb (kind_of config n) 1 other)))))
        (λ h. let (e, k, few, f) = some_from (write_entry config n w) h in
        ⊎_elim (λ q. absurd (omega (arith, few, pow_only read_digit e.value q)))
        (λ q. rw (ne_eqb y 0 (λ z. bit_zero e.value (subst (λ (y : ℕ). bit y e.value ≡ 1) z q))))
        (wo.all e.value (write_digit e k f)))

  -- no object has such a number
  pub described_past : (n : ℕ) → length t ≤ n → (asked : Transfer)
      → false ≡ described config b c (wanted config n asked)
  described_past n far Read =
      sym (not-true _ (λ h. let (e, k, small, f) = some_from (read_entry n) h in
      bit_zero read_digit (subst (λ (y : ℕ). bit y read_digit ≡ 1) (get_or-eq_default t 0 far)
      (read-digit n 0 e k f))))
  described_past n far (Write w) =
      sym (not-true _ (λ h. let (e, k, small, f) = some_from (write_entry config n w) h in
      bit_zero e.value (subst (λ (y : ℕ). bit y e.value ≡ 1) (get_or-eq_default t 0 far)
      (write_digit n w e k f))))
