-- The words before any step are right, and have all that holds then.
use Prim.Native.Nat.{ℕ, zero, suc, ◌+◌, ◌-◌, ◌%◌, ◌^◌, ◌≤◌, ◌<◌}
use native.Mathlib.Omega.{arith}
use native.Mathlib.Decide.{ℕ_discrete}
use mathlib.Core.Path.{◌≡◌, refl, sym, ap, subst, ◌∙◌}
use mathlib.Core.Logic.{inl, ⊎_elim, by_cases}
use mathlib.Core.Bool.{Bool, true, false, false≢true}
use mathlib.Core.List.{List}
use lib.Bits.{bit_or}
use lib.ListN.{get_or, length, set, replicate}
use lib.Seq.{get_or-set_same, get_or-set_other}
use Rattle.model.specs.Config.{most_devices}
use Rattle.model.specs.State.{State, held}
use Rattle.model.specs.Closure.{start, own}
use Rattle.model.specs.declared.Config.{Config}
use Rattle.scene.specs.Digits.{bit, Has, Wider}
use Rattle.scene.specs.Rules.{starts, owned}
use Rattle.scene.specs.Scene.{Scene, In, OwnersOk}
use Rattle.closure.specs.declared.spread.Readers.{Readers}
use Rattle.closure.specs.declared.spread.Found.{Found}
use Rattle.closure.specs.Words.{
  Covers,
  Covered,
  By,
  Gave,
  RightPair,
  RightWord,
  Sound,
  BegunAt,
  Seeded,
  OwnWord,
  ValueWord,
  FirstWord,
}
use Rattle.closure.specs.Search.{Going}
use Rattle.scene.proofs.Digits.{or_left, or_right, bit_zero, pow_bit, pow_only, mod_bit, bit_mod}
use Rattle.scene.proofs.Ranges.{
  owners_of,
  live_test,
  owned-active,
  owned-kind,
  owned-class,
  owned-owner,
  owned-hardcoded,
  owned_of,
}
use Rattle.closure.proofs.Giving.{some_scene, paired-wider}
use Rattle.scene.proofs.Widening.{set_word, no_digit}
use Rattle.closure.proofs.Growing.{right_or}

-- the word of the active device whose hardcoded descriptor o is
module _ (config : Config) (b : State) (o : ℕ) where
  abbrev Word : ℕ → Type 0
  Word x = OwnWord config b o x

  abbrev is_owned : ℕ → Bool
  is_owned c = owned config.objects.kind config.objects.class config.objects.owner b c o

  pub own_none : ((i : ℕ) → is_owned (i + 1) ≡ true → ⊥) → Word 0
  own_none f =
      record {
        low = λ i e. absurd (bit_zero i e);
        right = λ i e. absurd (bit_zero i e);
        all = λ i e. absurd (f i e);
      }

  pub own-kind : (get_or config.objects.kind o 0 ≡ 4 → ⊥) → Word 0
  own-kind h = own_none (λ i e. h (owned-kind config b (i + 1) o e))

  pub own-low : get_or config.objects.owner o 0 < 1 → Word 0
  own-low h = own_none (λ i e. omega (arith, owned-owner config b (i + 1) o e))

  pub own-high : OwnersOk config → In config.counts.objects o → config.counts.devices < get_or config.objects.owner o 0
      → Word 0
  own-high ok object h =
      own_none (λ i e. let k = ok.device_known o object (owned-class config b (i + 1) o e) in omega (arith, k.high))

  pub own_one : (c : ℕ) → c ≡ get_or config.objects.owner o 0 → 1 ≤ c → c ≤ most_devices → is_owned c ≡ true
      → Word (2 ^ (c - 1))
  own_one c is p q e =
      record {
        low = λ i x. omega (arith, pow_only (c - 1) i x);
        right = λ i x.
            (let y : c ≡ i + 1 = omega (arith, pow_only (c - 1) i x) in
            subst (λ (c : ℕ). is_owned c ≡ true) y e);
        all = λ i x.
            (let y : c - 1 ≡ i = omega (arith, is, owned-owner config b (i + 1) o x) in
            subst (λ (k : ℕ). bit (2 ^ (c - 1)) k ≡ 1) y (pow_bit (c - 1)));
      }

  pub own-not : (c : ℕ) → c ≡ get_or config.objects.owner o 0 → is_owned c ≡ false → Word 0
  own-not c is e =
      own_none
      (λ i x. false≢true (sym e ∙ subst (λ (c : ℕ). is_owned c ≡ true) (sym (is ∙ owned-owner config b (i + 1) o x)) x))

-- the value that a descriptor holds
module _ (config : Config) (b : State) (o : ℕ) where
  pub value_none : (starts config.objects.kind b o ≡ true → ⊥) → ValueWord config b o 0
  value_none f = record { right = λ n e. absurd (bit_zero n e); all = λ e. absurd (f e) }

  pub value_one : (v x : ℕ) → starts config.objects.kind b o ≡ true → v ≡ held b o → held b o ≤ config.counts.values
      → x ≡ 2 ^ (v + most_devices) → ValueWord config b o x
  value_one v x s is few e =
      let p : x ≡ 2 ^ (held b o + most_devices) = e ∙ ap (λ (v : ℕ). 2 ^ (v + most_devices)) is in
      record {
        right = λ n h. (s, pow_only (held b o + most_devices) n (subst (λ (y : ℕ). bit y n ≡ 1) p h), few);
        all = λ h. subst (λ (y : ℕ). bit y (held b o + most_devices) ≡ 1) (sym p) (pow_bit (held b o + most_devices));
      }

-- the word of descriptor o before any step
module _ (m : Scene) (o x : ℕ) (ok : OwnersOk m.config) (i : In m.config.counts.objects o)
    (w : OwnWord m.config m.state o x) where
  own-right : RightWord m o x
  own-right =
      record {
        readers = λ n h q.
            (let e = owned-hardcoded m.config m.state (n + 1) o i (w.right n q) in
            record {
              reads = λ v t. own (owned-active m.config m.state (n + 1) o (w.right n q)) e t;
              device = owners_of m ok (n + 1) o e;
              object = i;
            });
        values = λ v q. absurd (omega (arith, w.low (v + most_devices) q));
      }

  -- its device and its value
  pub first_word : (y : ℕ) → ValueWord m.config m.state o y → FirstWord m o (bit_or x y)
  first_word y f =
      record {
        right = right_or own-right
            (record {
              readers = λ n p h. absurd (omega (arith, (f.right n h).1));
              values = λ v h.
                  (let (s, q, k) = f.right (v + most_devices) h in
                  let e : v ≡ held m.state o = omega arith in
                  subst (λ (v : ℕ). RightPair m o v) (sym e)
                  (record {
                    collected = start (live_test m.config m.state o i ∙ s) refl;
                    object = i;
                    value = k;
                  }));
            });
        started = λ l.
            or_right x y _ (f.all (sym (live_test m.config m.state o i) ∙ l));
        owned = λ n p a h. or_left x y n (w.all n (owned_of m.config m.state (n + 1) o a h));
      }

-- all words before any step
module _ (m : Scene) where
  begin_at : (k : List ℕ) (o x : ℕ) → o < length k → FirstWord m o x → BegunAt m (set k o x) o
  begin_at k o x h f =
      record {
        started = λ e.
            subst (λ (y : ℕ). bit y (held m.state o + most_devices) ≡ 1) (sym (get_or-set_same k o x 0 h))
            (f.started e);
        owned = λ n p a e. subst (λ (y : ℕ). bit y n ≡ 1) (sym (get_or-set_same k o x 0 h)) (f.owned n p a e);
      }

  begin_other : (k : List ℕ) (o x j : ℕ) → (j ≡ o → ⊥) → BegunAt m k j → BegunAt m (set k o x) j
  begin_other k o x j h b =
      record {
        started = λ e.
            subst (λ (y : ℕ). bit y (held m.state j + most_devices) ≡ 1) (sym (get_or-set_other k o j x 0 h))
            (b.started e);
        owned = λ n p a e. subst (λ (y : ℕ). bit y n ≡ 1) (sym (get_or-set_other k o j x 0 h)) (b.owned n p a e);
      }

  pub begin_more : (k : List ℕ) (o x : ℕ) → o < length k → FirstWord m o x
      → ((j : ℕ) → j < o → In m.config.counts.objects j → BegunAt m k j) → (j : ℕ) → j < o + 1
      → In m.config.counts.objects j → BegunAt m (set k o x) j
  begin_more k o x h f g j l p =
      by_cases (ℕ_discrete j o)
      (λ e. subst (λ (j : ℕ). BegunAt m (set k o x) j) (sym e) (begin_at k o x h f))
      (λ e. begin_other k o x j e (g j (omega arith) p))

  pub sound_none : (k : ℕ) → Sound m (replicate k 0)
  sound_none k o =
      record {
        readers = λ n h e. absurd (no_digit k o n e);
        values = λ v e. absurd (no_digit k o (v + most_devices) e);
      }

  wider_zero : (k : List ℕ) (o x : ℕ) → o < length k → get_or k o 0 ≡ 0 → Wider k (set k o x)
  wider_zero k o x h z =
      record {
        kept = set_word (λ j y. (n : ℕ) → Has k j n → bit y n ≡ 1) k o x h
            (λ n e. absurd (bit_zero n (subst (λ (y : ℕ). bit y n ≡ 1) z e))) (λ j n e. e);
      }

-- one descriptor more: its devices read its values
module _ (k : List ℕ) (t t' : Readers) (o x : ℕ) (few : o < length k) (zero : get_or k o 0 ≡ 0)
    (g : Gave (λ u. bit x (u + most_devices) ≡ 1) (x % 2 ^ most_devices) t t') where
  here : (n : ℕ) → bit x n ≡ 1 → Has (set k o x) o n
  here n e = subst (λ (y : ℕ). bit y n ≡ 1) (sym (get_or-set_same k o x 0 few)) e

  pub seed_by : By k t.of → By (set k o x) t'.of
  seed_by b v n e =
      let w = wider_zero some_scene k o x few zero in
      ⊎_elim (λ q. paired-wider w (b v n q))
      (λ q.
      let a = mod_bit x most_devices n q.1 in
      record { object = o; reading = (n, refl, a.0, here n a.1); paired = here (v + most_devices) q.0 })
      (g.only v n e)

  pub seed_covers : Covered k t.of → Covered (set k o x) t'.of
  seed_covers c =
      set_word (λ j y. Covers y t'.of) k o x few (λ v n p e h. g.all v e n (bit_mod x most_devices n p h))
      (λ j v n p e h. g.wider.kept v n (c j v n p e h))

  pub seed_marked : ((v n : ℕ) → Has t.of v n → bit t.todo v ≡ 1) → (v n : ℕ) → Has t'.of v n → bit t'.todo v ≡ 1
  seed_marked f v n e = ⊎_elim (λ q. g.kept v (f v n q)) (λ q. q) (g.marked v n e)

  pub seed_zero : ((j : ℕ) → o ≤ j → get_or k j 0 ≡ 0) → (j : ℕ) → o + 1 ≤ j → get_or (set k o x) j 0 ≡ 0
  seed_zero f j h =
      let ne : j ≡ o → ⊥ = λ e. omega arith in
      get_or-set_other k o j x 0 ne ∙ f j (omega arith)

-- the words of nothing
pub get_or_none : (k j : ℕ) → get_or {A = ℕ} (replicate k 0) j 0 ≡ 0
get_or_none zero j = refl
get_or_none (suc k) zero = refl
get_or_none (suc k) (suc j) = get_or_none k j

pub by_none : (k : List ℕ) (i : ℕ) → By k (replicate i 0)
by_none k i v n e = absurd (no_digit i v n e)

pub covers_none : (i : ℕ) (t : List ℕ) → Covered (replicate i 0) t
covers_none i t o v n p e h = absurd (no_digit i o n h)

-- nothing is followed yet
pub going_start : (m : Scene) (f : List ℕ) (x : Found) (i : ℕ) → Seeded m x → Going m f x (replicate i 0)
going_start m f x i s =
    record {
      begun = s.begun;
      by = s.by;
      covers = s.covers;
      applied = λ v n j h p e. absurd (no_digit i v n e);
      spared = λ v j n l h e. absurd (no_digit i v n e);
      left = λ v n h e. inl (s.marked v n e);
    }
