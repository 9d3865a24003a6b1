-- Deactivation keeps what separation needs.
use Prim.Native.Nat.{ℕ, zero, suc, ◌≤◌}
use mathlib.Core.Path.{◌≡◌, refl, sym, ap, ◌∙◌, subst}
use mathlib.Core.Logic.{◌⊎◌, inl, inr}
use mathlib.Core.Bool.{Bool, true, false, not, ◌&&◌, ◌||◌, true≢false, false≢true}
use native.Mathlib.Omega.{arith}
use native.Mathlib.Decide.{dec_le}
use lib.ListN.{length}
use lib.Dec.{eqb}
use borrow.Author.Tests.{eqb-true, eq-eqb, ne_eqb}
use Rattle.model.specs.Base.{nth, put, number}
use Rattle.model.specs.Config.{class_of, from1to, descriptor}
use Rattle.model.specs.State.{State, green, device_in, object_in, held}
use Rattle.model.specs.Closure.{active, live, start, unnamed}
use Rattle.model.specs.declared.Family.TheVariants.{Deactivate}
use Rattle.model.specs.declared.Actor.{Actor}
use Rattle.model.specs.declared.Actor.TheVariants.{Driver, Device, External}
use Rattle.model.specs.Effect.{concerned, devices_after, placed, apply}
use Rattle.model.specs.Questions.{q20, actor_exists, itself, lets_go, green_value}
use Rattle.model.specs.Separation.{Clearing}
use Rattle.model.specs.declared.Config.{Config}
use Rattle.model.specs.declared.Operation.{Operation}
use Rattle.model.proofs.Lists.{
  and_l,
  and_r,
  or_true,
  both_true,
  not_eqb,
  flip_true,
  bool_cases,
  from1to-low,
  from1to-high,
  every_at,
  all_mem,
  nth-put-same,
  nth_past,
  length_number,
}
use Rattle.model.proofs.ClosureLaws.{survey-sound, reads-active}
use Rattle.model.proofs.Confinement.{Confined, fewer_reads}
use Rattle.model.specs.Green.{Green}
use Rattle.model.proofs.Green.{green-moved}
use Rattle.model.proofs.StateLaws.{apply_shape}
use Rattle.model.proofs.Accepted.{Sound}
use Rattle.model.proofs.Facts.{Passed}
use Rattle.sources.proofs.Stores.{Kept}
use Rattle.model.proofs.Moves.{listed-class, fits-listed, actor_exists_lem}
use Rattle.sources.proofs.Moves.{moved, unmoved, together_after, device-after}

ne_test : (x : ℕ) → (x ≡ 0 → ⊥) → not (eqb x 0) ≡ true
ne_test x h = ap not (ne_eqb x 0 h)

module _ {room : ℕ} (config : Config) (sound : Sound config) (op : Operation) (b : State)
    (kept : Kept room config b) where
  abbrev after : Actor → State
  after a = apply config op Deactivate a b

  module _ (a : Actor) (p : Passed config b op Deactivate a) where
    pub deactivated_class : (n : ℕ) → concerned config op External n ≡ true → class_of config n ≡ 0
    deactivated_class n k = (listed-class config op Deactivate (fits-listed config op) p.p13 n k).1

    -- what was nowhere stays there
    stays_inactive : (n : ℕ) → object_in b n ≡ 0 → object_in (after a) n ≡ 0
    unfolding apply
    stays_inactive n z = go (bool_cases (concerned config op a n))
      where
        go : (concerned config op a n ≡ true) ⊎ (concerned config op a n ≡ false)
            → nth (number 0 (placed config op a 0) b.object) n 0 ≡ 0
        go (inr k) = unmoved config sound op b kept 0 a n k ∙ z
        go (inl k) = edge n k z
          where
            edge : (n : ℕ) → concerned config op a n ≡ true → object_in b n ≡ 0
                → nth (number 0 (placed config op a 0) b.object) n 0 ≡ 0
            edge zero k z = refl
            edge (suc n) k z = pick (dec_le (suc n) (length b.object))
              where
                pick : Dec (suc n ≤ length b.object)
                    → nth (number 0 (placed config op a 0) b.object) (suc n) 0 ≡ 0
                pick (yes l) = moved config sound op b kept 0 a (suc n) (omega arith) l k
                pick (no g) =
                    nth_past (number 0 (placed config op a 0) b.object) (suc n) 0
                    (omega (arith, length_number 0 (placed config op a 0) b.object))

    live_before : (o : ℕ) → live config (after a) o ≡ true → live config b o ≡ true
    unfolding apply
    live_before o l =
        both_true (and_l (descriptor config o) _ l)
        (ne_test (object_in b o) (λ z. not_eqb _ 0 (and_r (descriptor config o) _ l) (stays_inactive o z)))

    device-same : (c : ℕ) → active (after a) c ≡ true → device_in (after a) c ≡ device_in b c
    unfolding apply
    device-same c h = go (device-after config sound op b kept 0 a c)
      where
        go : (nth (devices_after op a 0 b.device) c 0 ≡ device_in b c)
            ⊎ ((c ≡ itself op a) × (nth (devices_after op a 0 b.device) c 0 ≡ 0))
            → nth (devices_after op a 0 b.device) c 0 ≡ device_in b c
        go (inl e) = e
        go (inr (e, z)) = absurd (not_eqb _ 0 h z)

    active_before : (c : ℕ) → active (after a) c ≡ true → active b c ≡ true
    active_before c h = subst (λ (x : ℕ). not (eqb x 0) ≡ true) (device-same c h) h

  -- the device that goes is active no more
  not_itself : (a : Actor) → actor_exists config a op.subject ≡ true → (c : ℕ) → active (after a) c ≡ true
      → c ≡ itself op a → ⊥
  unfolding apply
  not_itself Driver ex c h e = not_eqb (device_in b c) 0 h (ap (device_in b) e)
  not_itself Device ex c h e =
      not_eqb (nth (put b.device op.subject 0) c 0) 0 h
      (subst (λ (k : ℕ). nth (put b.device op.subject 0) k 0 ≡ 0) (sym e)
      (nth-put-same b.device op.subject 0 0 (from1to-low op.subject config.counts.devices ex)
      (omega (
        arith,
        from1to-high op.subject config.counts.devices ex,
        sound.few.devices,
        kept.shape.devices,
      ))))
  not_itself External ex c h e = not_eqb (device_in b c) 0 h (ap (device_in b) e)

  module _ (a : Actor) (p : Passed config b op Deactivate a) where
    deactivate_confined : Confined config (after a)
    unfolding apply q20
    deactivate_confined c o v r e m =
        let rb = fewer_reads config b (after a) (λ x l. start (live_before a p x l) refl) (active_before a p) r in
        let q = kept.confines c o v rb e m in
        let h : active (after a) c ≡ true = reads-active r in (
          q.0,
          unmoved config sound op b kept 0 a e.object
              (free h (or_true (survey-sound config b
              (λ c e. eqb c (itself op a) || not (concerned config op a e.object))
              (and_l (unnamed config b (concerned config op a) (itself op a)) _ p.p20) rb m)))
              ∙ (q.1 ∙ sym (device-same a p c h)),
        )
      where
        free : active (after a) c ≡ true → (eqb c (itself op a) ≡ true)
            ⊎ (not (concerned config op a e.object) ≡ true) → concerned config op a e.object ≡ false
        free h (inl k) =
            absurd (not_itself a (actor_exists_lem config op Deactivate a p.p11) c h (eqb-true c (itself op a) k))
        free h (inr k) = flip_true (concerned config op a e.object) k

    -- a descriptor that stays in a green zone names nothing that leaves it
    deactivate_green : Green config (after a)
    unfolding apply q20
    deactivate_green o l g = go (bool_cases (concerned config op a o))
      where
        number_of : from1to o config.counts.objects ≡ true
        number_of = search (and_l, and_r)

        go : (concerned config op a o ≡ true) ⊎ (concerned config op a o ≡ false)
            → green_value config (after a) (object_in (after a) o) (held b o) ≡ true
        go (inl k) =
            absurd (not_eqb (object_in (after a) o) 0 (and_r (descriptor config o) _ l)
            (moved config sound op b kept 0 a o (from1to-low o config.counts.objects number_of)
            (omega (
              arith,
              from1to-high o config.counts.objects number_of,
              kept.roomy,
              kept.shape.objects,
            )) k))
        go (inr k) =
            let at = unmoved config sound op b kept 0 a o k in
            let lb = live_before a p o l in
            let zone : green b (object_in b o) ≡ true = subst (λ (y : ℕ). green b y ≡ true) at g in
            let lets : lets_go config b (concerned config op a) o ≡ true =
            every_at config.counts.objects (lets_go config b (concerned config op a))
            (and_r (unnamed config b (concerned config op a) (itself op a)) _ p.p20) o
            (from1to-low o config.counts.objects number_of) (from1to-high o config.counts.objects number_of) in
            subst (λ (y : ℕ). green_value config (after a) y (held b o) ≡ true) (sym at)
            (green-moved config b (after a) (object_in b o) (held b o) (kept.greens o lb zone)
            (λ e m i. unmoved config sound op b kept 0 a e.object
            (free (concerned config op a e.object) (eqb (object_in b e.object) (object_in b o))
            (eq-eqb (object_in b e.object) (object_in b o) i)
            (all_mem (λ e. not (concerned config op a e.object && eqb (object_in b e.object) (object_in b o))) m
            (last (descriptor config o && green b (object_in b o)) (concerned config op a o) _
            (both_true (and_l (descriptor config o) _ l) zone) k lets)))
            ∙ i))
          where
            last : (s t u : Bool) → s ≡ true → t ≡ false → not s || t || u ≡ true → u ≡ true
            last true true u h k r = absurd (true≢false k)
            last true false u h k r = r
            last false t u h k r = absurd (false≢true h)

            free : (s t : Bool) → t ≡ true → not (s && t) ≡ true → s ≡ false
            free true true h k = absurd (false≢true k)
            free true false h k = absurd (false≢true h)
            free false t h k = refl

    pub deactivate_kept : Kept room config (after a)
    unfolding apply
    deactivate_kept =
        record {
          roomy = kept.roomy;
          shape = apply_shape room config op Deactivate a b kept.shape;
          hardcoded = kept.hardcoded;
          together = together_after config sound op b kept 0 a (actor_exists_lem config op Deactivate a p.p11)
              (deactivated_class a p);
          confines = deactivate_confined;
          greens = deactivate_green;
        }

    pub deactivate_clears : Clearing config b (after a)
    deactivate_clears n z y k = absurd (y (stays_inactive a p n z))
