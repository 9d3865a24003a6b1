-- Activation keeps what separation needs, and clears what it moves into a partition.
use Prim.Native.Nat.{ℕ, zero, suc, ◌≤◌}
use mathlib.Core.Path.{◌≡◌, refl, sym, ap, ◌∙◌, subst}
use mathlib.Core.Logic.{◌⊎◌, inl, inr}
use mathlib.Core.List.{List, Memᴰ}
use mathlib.Core.Bool.{Bool, true, false, not, ◌&&◌, cond}
use native.Mathlib.Omega.{arith}
use native.Mathlib.Decide.{dec_le, ℕ_discrete}
use lib.ListN.{get_or}
use lib.Dec.{eqb}
use borrow.Author.Tests.{eqb-true, eq-eqb, ne_eqb}
use Rattle.model.specs.Base.{nth, number}
use Rattle.model.specs.Config.{
  kind_of,
  class_of,
  hardcoded_of,
  owns,
  from1to,
  descriptor,
  hardcoded_to,
  Entry,
  writes,
  entries,
}
use Rattle.model.specs.State.{State, green, driver_in, device_in, object_in, content_of, held, cleared, well_formed}
use Rattle.model.specs.Closure.{active, live}
use Rattle.model.specs.Operation.{object_at}
use Rattle.model.specs.declared.Family.TheVariants.{Activate}
use Rattle.model.specs.declared.Actor.{Actor}
use Rattle.model.specs.declared.Actor.TheVariants.{Driver, Device, External}
use Rattle.model.specs.Effect.{concerned, devices_after, cleared_by, apply}
use Rattle.model.specs.Questions.{
  q13,
  q16,
  q21,
  q22,
  actor_exists,
  inactive,
  itself,
  quiet_entry,
  green_entry,
  green_value,
  quiet_actor,
}
use Rattle.model.specs.Separation.{Hardcoded, Clearing}
use Rattle.model.specs.declared.Config.{Config}
use Rattle.model.specs.declared.Operation.{Operation}
use Rattle.model.proofs.Lists.{
  and_l,
  and_r,
  both_true,
  not_eqb,
  not-true,
  bool_cases,
  from1to-low,
  from1to-high,
  below_at,
  all_mem,
  all-intro,
  nth_number,
  nth_past,
  length_number,
}
use Rattle.model.proofs.Columns.{or_else_lem}
use Rattle.model.proofs.Confinement.{Confined, confined-sound, Activated, activation_confined}
use Rattle.model.specs.Green.{Green}
use Rattle.model.proofs.Green.{quiet_entry_lem, green-entry, green-moved, green_zero}
use Rattle.model.proofs.StateLaws.{apply_shape}
use Rattle.model.proofs.Accepted.{Sound}
use Rattle.model.proofs.Hardcoded.{hardcoded-class, hardcoded-entry}
use Rattle.model.proofs.Facts.{entry-owned, owns-class, owns-owner, with_driver_lem, Upto18, upto18, Passed}
use Rattle.sources.proofs.Stores.{Kept}
use Rattle.model.proofs.Moves.{listed_at, listed-class, fits-listed, actor_exists_lem}
use Rattle.sources.proofs.Moves.{unmoved, together_after, device-after}

module _ {room : ℕ} (config : Config) (sound : Sound config) (op : Operation) (b : State)
    (kept : Kept room config b) where
  abbrev after : Actor → State
  after a = apply config op Activate a b

  -- activation: what is concerned was in no partition
  module _ (formed : well_formed room config b ≡ true) (a : Actor) (p : Upto18 config b op Activate a) where
    pub activated_fits : (n : ℕ) → concerned config op External n ≡ true
        → (kind_of config n ≡ 4 → ⊥) × (class_of config n ≡ 0)
    activated_fits n k = listed-class config op Activate (fits-listed config op) p.p13 n k

  pub was_inactive : well_formed room config b ≡ true → (a : Actor) → inactive b op a ≡ true → (n : ℕ)
      → concerned config op a n ≡ true → object_in b n ≡ 0
  was_inactive formed Driver h n k =
      with_driver_lem room config kept.roomy b formed op.subject n k
      ∙ eqb-true (driver_in b op.subject) 0 h
  was_inactive formed Device h n k = kept.together op.subject n k ∙ eqb-true (device_in b op.subject) 0 h
  was_inactive formed External h n k =
      let (i, l, e) = listed_at config op n k in
      ap (object_in b) (sym e) ∙ eqb-true (object_in b (object_at op i)) 0
      (below_at op.count (λ i. eqb (object_in b (object_at op i)) 0) h i l)

  device-inactive : (a : Actor) → inactive b op a ≡ true → device_in b (itself op a) ≡ 0
  device-inactive Driver h = refl
  device-inactive Device h = eqb-true (device_in b op.subject) 0 h
  device-inactive External h = refl

  -- a kind 4 object that comes in is hardcoded to the device that comes in
  four_comes : (a : Actor) → q13 config op Activate ≡ true → (n : ℕ) → 1 ≤ n → n ≤ config.counts.objects
      → concerned config op a n ≡ true → kind_of config n ≡ 4 → hardcoded_to config (itself op a) n ≡ true
  four_comes Driver h n low high k f =
      let e = owns-class config 1 op.subject n k in
      let g = hardcoded-class config sound.pairs n low high f in absurd (omega arith)
  four_comes Device h n low high k f = both_true (eq-eqb (kind_of config n) 4 f) k
  four_comes External h n low high k f = absurd ((listed-class config op Activate (fits-listed config op) h n k).0 f)

  -- the hardcoded value of the device that comes in, if one does, writes no kind 1 object
  abbrev pub Quiet : Actor → Type 0
  Quiet a =
      (itself op a ≡ 0 → ⊥) → (e : Entry) → Memᴰ e (entries config (hardcoded_of config (itself op a)))
      → kind_of config e.object ≡ 1 → writes e ≡ true → ⊥

  pub quiet_in : (a : Actor) → quiet_actor config op a ≡ true → Quiet a
  quiet_in Driver h some e m k w = some refl
  quiet_in Device h some e m k w = quiet_entry_lem config e (all_mem (quiet_entry config) m h) w k
  quiet_in External h some e m k w = some refl

  limited_entries : well_formed room config b ≡ true → (a : Actor) → inactive b op a ≡ true
      → actor_exists config a op.subject ≡ true
      → ((c x : ℕ) → owns config 2 c x ≡ true → object_in (after a) x ≡ device_in (after a) c) → Quiet a
      → (itself op a ≡ 0 → ⊥)
      → (e : Entry) → Memᴰ e (entries config (hardcoded_of config (itself op a)))
      → (kind_of config e.object ≡ 4 → ⊥) × (kind_of config e.object ≡ 1 → writes e ≡ true → ⊥)
      × (object_in b e.object ≡ 0) × (object_in (after a) e.object ≡ device_in (after a) (itself op a))
  limited_entries formed Driver h ex tg quiet some e m = absurd (some refl)
  limited_entries formed Device h ex tg quiet some e m =
      let q =
      hardcoded-entry config sound.wires op.subject (from1to-low op.subject config.counts.devices ex)
      (from1to-high op.subject config.counts.devices ex) m in
      let own = entry-owned config op.subject e q in (
        q.no_hardcoded,
        quiet some e m,
        was_inactive formed Device h e.object own,
        tg op.subject e.object own,
      )
  limited_entries formed External h ex tg quiet some e m = absurd (some refl)

  module _ (formed : well_formed room config b ≡ true) (a : Actor) (p : Upto18 config b op Activate a) where
    pub all-inactive : inactive b op a ≡ true
    unfolding q16
    all-inactive = p.p16

    together_in : (c x : ℕ) → owns config 2 c x ≡ true → object_in (after a) x ≡ device_in (after a) c
    unfolding apply
    together_in =
        together_after config sound op b kept op.partition a (actor_exists_lem config op Activate a p.p11)
        (λ n k. (activated_fits formed a p n k).1)

    -- contents after it
    pub cleared-content : (n : ℕ) → 1 ≤ n → n ≤ room
        → content_of (after a) n ≡ cond (concerned config op a n && not (eqb (kind_of config n) 4)) cleared
        (content_of b n)
    unfolding apply
    cleared-content n low high =
        nth_number (cleared_by config op a) b.content n cleared low (omega (arith, kept.shape.contents))

    pub kept-content : (n : ℕ) → 1 ≤ n → n ≤ room
        → concerned config op a n && not (eqb (kind_of config n) 4) ≡ false → content_of (after a) n ≡ content_of b n
    kept-content n low high h = cleared-content n low high ∙ ap (λ (t : Bool). cond t cleared (content_of b n)) h

    four-kept : (t : Bool) (n : ℕ) → kind_of config n ≡ 4 → t && not (eqb (kind_of config n) 4) ≡ false
    four-kept true n k = ap not (eq-eqb (kind_of config n) 4 k)
    four-kept false n k = refl

    hardcoded_in : Hardcoded config (after a)
    hardcoded_in n x k =
        kept-content n (from1to-low n config.counts.objects x)
        (omega (arith, from1to-high n config.counts.objects x, kept.roomy))
        (four-kept (concerned config op a n) n k)
        ∙ kept.hardcoded n x k

    stays_in : (o : ℕ) → (object_in b o ≡ 0 → ⊥) → object_in (after a) o ≡ object_in b o
    unfolding apply
    stays_in o h =
        unmoved config sound op b kept op.partition a o
        (not-true (concerned config op a o) (λ k. h (was_inactive formed a all-inactive o k)))

    devices_in : (c : ℕ) → active (after a) c ≡ true → (device_in (after a) c ≡ device_in b c) ⊎ (c ≡ itself op a)
    unfolding apply
    devices_in c h = go (device-after config sound op b kept op.partition a c)
      where
        go : (nth (devices_after op a op.partition b.device) c 0 ≡ device_in b c)
            ⊎ ((c ≡ itself op a) × (nth (devices_after op a op.partition b.device) c 0 ≡ op.partition))
            → (nth (devices_after op a op.partition b.device) c 0 ≡ device_in b c) ⊎ (c ≡ itself op a)
        go (inl e) = inl e
        go (inr (e, z)) = inr e

    abbrev Begins : ℕ → Type 0
    Begins o =
        ((live config b o ≡ true) × (held b o ≡ held (after a) o))
        ⊎ ((held (after a) o ≡ 0)
        ⊎ ((hardcoded_to config (itself op a) o ≡ true) × (held (after a) o ≡ hardcoded_of config (itself op a))))

    place_same : (o : ℕ) → concerned config op a o ≡ false → object_in (after a) o ≡ object_in b o
    unfolding apply
    place_same o k = unmoved config sound op b kept op.partition a o k

    begins_in : (o : ℕ) → live config (after a) o ≡ true → Begins o
    begins_in o l =
        let d : from1to o config.counts.objects ≡ true = search (and_l, and_r) in
        go d (bool_cases (concerned config op a o)) (ℕ_discrete (kind_of config o) 4)
      where
        go : from1to o config.counts.objects ≡ true
            → (concerned config op a o ≡ true) ⊎ (concerned config op a o ≡ false) → Dec (kind_of config o ≡ 4)
            → Begins o
        go d (inr k) f =
            inl (
              both_true (and_l (descriptor config o) _ l)
                  (subst (λ (x : ℕ). not (eqb x 0) ≡ true) (place_same o k) (and_r (descriptor config o) _ l)),
              sym (ap (λ (c : List ℕ). get_or c 0 0)
                  (kept-content o (from1to-low o config.counts.objects d)
                  (omega (arith, from1to-high o config.counts.objects d, kept.roomy))
                  (ap (λ (t : Bool). t && not (eqb (kind_of config o) 4)) k))),
            )
        go d (inl k) (yes f) =
            let w =
            four_comes a p.p13 o (from1to-low o config.counts.objects d)
            (from1to-high o config.counts.objects d) k f in
            inr (inr (
              w,
              ap (λ (c : List ℕ). get_or c 0 0) (hardcoded_in o d f)
                  ∙ ap (hardcoded_of config) (owns-owner config 2 (itself op a) o
                  (and_r (eqb (kind_of config o) 4) _ w)),
            ))
        go d (inl k) (no f) =
            inr (inl (ap (λ (c : List ℕ). get_or c 0 0)
            (cleared-content o (from1to-low o config.counts.objects d)
            (omega (arith, from1to-high o config.counts.objects d, kept.roomy))
            ∙ ap (λ (t : Bool). cond t cleared (content_of b o))
            (both_true k (ap not (ne_eqb (kind_of config o) 4 f))))))

    activated : Quiet a → Activated config b (after a) (itself op a)
    activated quiet =
        record {
          before = device-inactive a all-inactive;
          others = devices_in;
          stays = stays_in;
          begins = begins_in;
          unassigned = λ o w. kept.together (itself op a) o
              (and_r (eqb (kind_of config o) 4) (owns config 2 (itself op a) o) w) ∙ device-inactive a all-inactive;
          limited =
              limited_entries formed a all-inactive (actor_exists_lem config op Activate a p.p11) together_in quiet;
        }

    -- an activation of what writes no kind 1 object adds no entry that crosses
    pub quiet_confined : Quiet a → Confined config (after a)
    quiet_confined quiet = activation_confined config b (after a) (itself op a) (activated quiet) kept.confines

    -- a hardcoded value that comes into a green zone is green there
    hardcoded-green : q22 config b op Activate a ≡ true → (o : ℕ) → live config (after a) o ≡ true
        → green (after a) (object_in (after a) o) ≡ true → hardcoded_to config (itself op a) o ≡ true
        → green_value config (after a) (object_in (after a) o) (hardcoded_of config (itself op a)) ≡ true
    unfolding apply q22
    hardcoded-green p22 o l g w =
        all-intro (green_entry config (after a) (object_in (after a) o))
        (entries config (hardcoded_of config (itself op a)))
        (λ e m.
        let q =
        limited_entries formed a all-inactive (actor_exists_lem config op Activate a p.p11) together_in quiet some e
        m in
        green-entry config (after a) (object_in (after a) o) e (q.3 ∙ sym with_device_lem) q.0 q.1)
      where
        with_device_lem : object_in (after a) o ≡ device_in (after a) (itself op a)
        with_device_lem = together_in (itself op a) o
            (and_r (eqb (kind_of config o) 4) (owns config 2 (itself op a) o) w)

        lives : object_in (after a) o ≡ 0 → ⊥
        lives = not_eqb (object_in (after a) o) 0 (and_r (descriptor config o) _ l)

        some : itself op a ≡ 0 → ⊥
        some z = lives (with_device_lem ∙ ap (device_in (after a)) z)

        entered : (device_in (after a) (itself op a) ≡ device_in b (itself op a))
            ⊎ ((itself op a ≡ itself op a) × (device_in (after a) (itself op a) ≡ op.partition))
            → device_in (after a) (itself op a) ≡ op.partition
        entered (inl e) = absurd (lives (with_device_lem ∙ (e ∙ device-inactive a all-inactive)))
        entered (inr (e, z)) = z

        quiet : Quiet a
        quiet =
            quiet_in a (or_else_lem (green b op.partition) (quiet_actor config op a) p22
            (subst (λ (x : ℕ). green b x ≡ true)
            (with_device_lem ∙ entered (device-after config sound op b kept op.partition a (itself op a))) g))

    greens_in : q22 config b op Activate a ≡ true → Green config (after a)
    unfolding apply
    greens_in p22 o l g = go (begins_in o l)
      where
        go : Begins o → green_value config (after a) (object_in (after a) o) (held (after a) o) ≡ true
        go (inl (lb, eh)) =
            let some = not_eqb (object_in b o) 0 (and_r (descriptor config o) _ lb) in
            let at = stays_in o some in
            subst (λ (x : ℕ). green_value config (after a) (object_in (after a) o) x ≡ true) eh
            (subst (λ (y : ℕ). green_value config (after a) y (held b o) ≡ true) (sym at)
            (green-moved config b (after a) (object_in b o) (held b o)
            (kept.greens o lb (subst (λ (y : ℕ). green b y ≡ true) at g))
            (λ e m i. stays_in e.object (λ z. some (sym i ∙ z)) ∙ i)))
        go (inr (inl z)) = green_zero config (after a) (object_in (after a) o) (held (after a) o) z
        go (inr (inr (w, eh))) =
            subst (λ (x : ℕ). green_value config (after a) (object_in (after a) o) x ≡ true) (sym eh)
            (hardcoded-green p22 o l g w)

    pub activate_clears : Clearing config b (after a)
    unfolding apply
    activate_clears n z y f = go (bool_cases (concerned config op a n))
      where
        go : (concerned config op a n ≡ true) ⊎ (concerned config op a n ≡ false) → content_of (after a) n ≡ cleared
        go (inr k) = absurd (y (unmoved config sound op b kept op.partition a n k ∙ z))
        go (inl k) = edge n k z y f
          where
            edge : (n : ℕ) → concerned config op a n ≡ true → object_in b n ≡ 0 → (object_in (after a) n ≡ 0 → ⊥)
                → (kind_of config n ≡ 4 → ⊥) → content_of (after a) n ≡ cleared
            edge zero k z y f = refl
            edge (suc n) k z y f = pick (dec_le (suc n) room)
              where
                pick : Dec (suc n ≤ room) → content_of (after a) (suc n) ≡ cleared
                pick (yes l) =
                    cleared-content (suc n) (omega arith) l
                    ∙ ap (λ (t : Bool). cond t cleared (content_of b (suc n)))
                    (both_true k (ap not (ne_eqb (kind_of config (suc n)) 4 f)))
                pick (no g) =
                    nth_past (number 0 (cleared_by config op a) b.content) (suc n) cleared
                    (omega (arith, length_number 0 (cleared_by config op a) b.content, kept.shape.contents))

  -- where a device comes in, question 21 asks the search
  activate_confined : well_formed room config b ≡ true → (a : Actor) → Passed config b op Activate a
      → Confined config (after a)
  unfolding q21
  activate_confined formed Driver p = quiet_confined formed Driver (upto18 p) (quiet_in Driver refl)
  activate_confined formed Device p = confined-sound config (after Device) p.p21
  activate_confined formed External p = quiet_confined formed External (upto18 p) (quiet_in External refl)

  pub activate_kept : well_formed room config b ≡ true → (a : Actor) → Passed config b op Activate a
      → Kept room config (after a)
  activate_kept formed a p =
      record {
        roomy = kept.roomy;
        shape = apply_shape room config op Activate a b kept.shape;
        hardcoded = hardcoded_in formed a (upto18 p);
        together = together_in formed a (upto18 p);
        confines = activate_confined formed a p;
        greens = greens_in formed a (upto18 p) p.p22;
      }
