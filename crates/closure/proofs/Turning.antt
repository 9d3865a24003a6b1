-- A turn of the search: a value that has something to do; and nothing left to do.
use Prim.Native.Nat.{ℕ, zero, suc, ◌+◌, ◌-◌, ◌%◌, ◌^◌, ◌≤◌, ◌<◌}
use native.Mathlib.Nat.{mod-lt}
use native.Mathlib.Omega.{arith}
use mathlib.Core.Path.{◌≡◌, sym, subst, ◌∙◌}
use mathlib.Core.Logic.{◌⊎◌, inl, inr, ⊎_elim}
use mathlib.Core.Bool.{true}
use mathlib.Core.List.{List}
use lib.Bits.{bit_or}
use lib.Pow.{pow_pos}
use lib.ListN.{get_or, length, set}
use lib.Seq.{get_or-set_same}
use Rattle.model.specs.Config.{most_devices, hardcoded_to}
use Rattle.model.specs.Closure.{active}
use Rattle.scene.specs.Digits.{bit, Cleared, Without, Has, Wider}
use Rattle.scene.specs.Scene.{Scene, entry_of, count_of, In}
use Rattle.closure.specs.declared.spread.Found.{Found}
use Rattle.closure.specs.Words.{
  ReaderIn,
  PairIn,
  slack,
  Grew,
  RightReader,
  Sound,
  Each,
  EntryIn,
  EntriesIn,
  BegunAt,
}
use Rattle.closure.specs.Search.{NoStrange, StrangeIn, Going, Ended, Suspected}
use Rattle.scene.proofs.Digits.{or_right, or_out, or_within, or_grows, bit_zero, mod_bit, bit_mod, some_bit}
use Rattle.scene.proofs.Ranges.{live-object, hardcoded-object}
use Rattle.closure.proofs.Giving.{paired-wider, slack_set}
use Rattle.scene.proofs.Widening.{set_word, wider_set}
use Rattle.closure.proofs.Growing.{entry-wider, low_mod}

-- a value that has something to do
module _ (m : Scene) (f : List ℕ) (x : Found) (a : List ℕ) (d w v : ℕ) (g : Going m f x a)
    (c : Cleared x.readers.todo v d) (n : Without (get_or x.readers.of v 0) (get_or a v 0) w) where
  -- it has no more
  abbrev cleared : Found
  cleared = record { known = x.known; readers = record { of = x.readers.of; todo = d } }

  -- the devices that are new to it
  abbrev fresh : ℕ
  fresh = w % 2 ^ most_devices

  fresh-there : (i : ℕ) → bit fresh i ≡ 1 → Has x.readers.of v i
  fresh-there i e = n.here i (mod_bit w most_devices i e).1

  pub fresh-each : Each m fresh v
  fresh-each i e =
      let p = g.by v i (fresh-there i e) in
      let r = p.reading in
      let q : r.0 ≡ i = omega (arith, r.1) in
      let s = g.begun.sound p.object in
      let y = subst (λ (i : ℕ). RightReader m (i + 1) p.object) q (s.readers r.0 r.2 r.3) in (
        low_mod w i e,
        y.device,
        record { object = p.object; read = y.reads v (s.values v p.paired).collected },
      )

  old_or_fresh : (i : ℕ) → Has x.readers.of v i → Has a v i ⊎ (bit fresh i ≡ 1)
  old_or_fresh i e =
      let r = (g.by v i e).reading in
      let l : i < most_devices = omega (arith, r.1, r.2) in
      ⊎_elim inl (λ h. inr (bit_mod w most_devices i l h)) (n.all i e)

  pub going_none : fresh ≡ 0 → Going m f cleared a
  going_none z =
      record {
        begun = g.begun;
        by = g.by;
        covers = g.covers;
        applied = g.applied;
        spared = g.spared;
        left = λ u i h e.
            ⊎_elim
            (λ q. ⊎_elim
            (λ y. inr (subst (λ (u : ℕ). Has a u i) (sym y)
            (⊎_elim (λ h. h) (λ h. absurd (bit_zero i (subst (λ (x : ℕ). bit x i ≡ 1) z h)))
            (old_or_fresh i (subst (λ (u : ℕ). Has x.readers.of u i) y e)))))
            inl
            (c.all u q))
            inr
            (g.left u i h e);
      }

  -- its entries were followed
  module _ (y : Found) (e : Grew cleared y) where
    pub suspected_of : (s : ℕ) → Sound m y.known → StrangeIn m.config f fresh v s → (i : ℕ) → bit s i ≡ 1
        → Suspected m f y.known i v
    suspected_of s sound strange i b =
        let z = strange i b in
        record {
          sound = sound;
          paired = paired-wider e.wider (g.by v i (fresh-there i z.0));
          entry = z.1;
          there = z.2;
          strange = z.3;
        }

    begun-wider : {o : ℕ} → BegunAt m x.known o → BegunAt m y.known o
    begun-wider {o} b =
        record {
          started = λ h. e.wider.kept o _ (b.started h);
          owned = λ i h p q. e.wider.kept o i (b.owned i h p q);
        }

    pub going_some : (z : ℕ) → v < length a → z ≡ bit_or (get_or a v 0) fresh → Sound m y.known
        → EntriesIn m y.known fresh v (count_of m v + 1) → NoStrange m.config f fresh v (count_of m v + 1)
        → Going m f y (set a v z)
    going_some z few is sound entries spared =
        let out : (i : ℕ) → bit z i ≡ 1 → Has a v i ⊎ (bit fresh i ≡ 1) =
        λ i h. or_out (get_or a v 0) fresh i (subst (λ (y : ℕ). bit y i ≡ 1) is h) in
        let wider : Wider a (set a v z) = subst (λ (y : ℕ). Wider a (set a v y)) (sym is) (wider_set a v fresh few) in
        let new : (i : ℕ) → bit fresh i ≡ 1 → Has (set a v z) v i =
        λ i h. subst (λ (x : ℕ). bit x i ≡ 1) (sym (get_or-set_same a v z 0 few ∙ is))
        (or_right (get_or a v 0) fresh i h) in
        record {
          begun = record {
            sound = sound;
            given = λ o p. begun-wider (g.begun.given o p);
            owners = g.begun.owners;
          };
          by = e.by g.by;
          covers = e.covers g.covers;
          applied = λ u i j h p b.
              set_word (λ u x. (j : ℕ) → In (count_of m u) j → bit x i ≡ 1 → EntryIn m y.known (i + 1) u j) a v z few
              (λ j p b. ⊎_elim (λ q. entry-wider e.wider (g.applied v i j h p q))
              (λ q. entries j p.low (omega (arith, p.high)) i h q) (out i b))
              (λ u j p b. entry-wider e.wider (g.applied u i j h p b))
              u j p b;
          spared = set_word (λ u x. NoStrange m.config f x u (count_of m u + 1)) a v z few
              (λ j i l h b. ⊎_elim (g.spared v j i l h) (spared j i l h) (out i b)) g.spared;
          left = λ u i h b.
              ⊎_elim
              (λ q. ⊎_elim
              (λ p. ⊎_elim
              (λ k. inr (subst (λ (u : ℕ). Has (set a v z) u i) (sym k)
              (⊎_elim (wider.kept v i) (new i) (old_or_fresh i (subst (λ (u : ℕ). Has x.readers.of u i) k q)))))
              (λ k. inl (e.kept u k))
              (c.all u p))
              (λ p. inr (wider.kept u i p))
              (g.left u i h q))
              inl
              (e.marked u i b);
        }

-- devices that are new leave less room
pub fresh-slack : (a : List ℕ) (x v w y : ℕ) → v < length a → Without x (get_or a v 0) w →
    (w % 2 ^ most_devices ≡ 0 → ⊥)
    → y ≡ bit_or (get_or a v 0) (w % 2 ^ most_devices) → y ≤ 2 ^ 64 → slack (set a v y) < slack a
fresh-slack a x v w y few n some is fit =
    let r = w % 2 ^ most_devices in
    let i = some_bit most_devices r some (mod-lt w (pow_pos most_devices)) in
    let ne : y ≡ get_or a v 0 → ⊥ =
    λ q. n.other i.0 (mod_bit w most_devices i.0 i.1).1
    (or_within r (get_or a v 0) i.0 (sym is ∙ q) i.1) in
    slack_set a v y few (omega (arith, is, or_grows (get_or a v 0) r, ne)) fit

-- nothing is left to do
own-bit : (m : Scene) (k : List ℕ) (c o : ℕ) → In most_devices c
    → ((n : ℕ) → n < most_devices → active m.state (n + 1) ≡ true → hardcoded_to m.config (n + 1) o ≡ true
    → Has k o n)
    → active m.state c ≡ true → hardcoded_to m.config c o ≡ true → ReaderIn k c o
own-bit m k zero o i f a e = absurd (omega (arith, i.low))
own-bit m k (suc n) o i f a e =
    let q : suc n ≡ n + 1 = omega arith in
    let p : n < most_devices = omega (arith, i.high) in (
      n,
      q,
      p,
      f n p (subst (λ (c : ℕ). active m.state c ≡ true) q a)
          (subst (λ (c : ℕ). hardcoded_to m.config c o ≡ true) q e),
    )

pub ended_of : (m : Scene) (f : List ℕ) (x : Found) (a : List ℕ) → m.config.counts.devices ≤ most_devices
    → Going m f x a → ((v : ℕ) → v ≤ m.config.counts.values → bit x.readers.todo v ≡ 1 → ⊥) → Ended m f x.known
ended_of m f x a few g none =
    let done : (o v n : ℕ) → n < most_devices → Has x.known o n → PairIn x.known o v → Has a v n =
    λ o v n l r p.
    let q = (g.begun.sound o).values v p in
    ⊎_elim (λ h. absurd (none v q.value h)) (λ h. h) (g.left v n q.value (g.covers o v n l p r)) in
    record {
      sound = g.begun.sound;
      closed = record {
        started = λ o e. (g.begun.given o (live-object m.config m.state o e)).started e;
        owned = λ c o y e.
            (let i = g.begun.owners c o e in
            own-bit m x.known c o (record { low = i.low; high = omega (arith, i.high) })
            (g.begun.given o (hardcoded-object m.config c o e)).owned y e);
        entries = λ c o v j r p h.
            subst (λ (c : ℕ). EntryIn m x.known c v j) (sym r.1)
            (g.applied v r.0 j r.2 h (done o v r.0 r.2 r.3 p));
      };
      fine = λ c o v j r p h.
          (let q : r.0 ≡ c - 1 = omega (arith, r.1) in
          subst (λ (n : ℕ). Has f (entry_of m v j).object n) q
          (g.spared v j r.0 h.low (omega (arith, h.high)) (done o v r.0 r.2 r.3 p)));
    }
