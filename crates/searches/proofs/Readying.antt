-- What the questions before give: to a search, and to the effect on a scratch copy. Assumes nothing.
use Prim.Native.Nat.{ℕ, ◌≤◌, ◌<◌}
use mathlib.Core.Path.{◌≡◌, refl, sym, ap, ◌∙◌, subst}
use mathlib.Core.List.{List}
use mathlib.Core.Bool.{Bool, true, false, not, ◌||◌, beq, true≢false, false≢true}
use native.Mathlib.Omega.{arith}
use lib.ListN.{length, replicate}
use lib.Dec.{eqb}
use borrow.Author.Tests.{eqb-true, eq-eqb, ne_eqb, leb-true}
use Rattle.model.specs.Config.{most_objects, most_values, kind_of}
use Rattle.model.specs.ConfigFile.{load}
use Rattle.model.specs.Number.{most_number}
use Rattle.model.specs.State.{State, object_in, content_of, room_for, area_length}
use Rattle.model.specs.State.{view, layout, right_content, well_formed}
use Rattle.model.specs.Operation.{family_of, actor_of, object_at, second_at, form_at, read_operation}
use Rattle.model.specs.Effect.{apply, answer_bytes, concerned}
use Rattle.model.specs.Questions.{q11, q13, q17, is_object, item_exists, is_kind, item_fits, zone_of}
use Rattle.model.specs.Gate.{applied, judged}
use Rattle.model.specs.declared.Family.{Family}
use Rattle.model.specs.declared.Family.TheVariants.{Write, Copy, Activate, Deactivate}
use Rattle.model.specs.declared.Actor.{Actor}
use Rattle.model.specs.declared.Config.{Config}
use Rattle.model.specs.Loaded.{Loaded}
use Rattle.model.specs.declared.Operation.{Operation}
use Rattle.model.proofs.Lists.{and_r, below_at, from1to-high}
use Rattle.model.proofs.Accepted.{Sound, load-sound}
use Rattle.model.proofs.Facts.{objects_room, room_most, passed}
use Rattle.model.proofs.Formed.{Formed, formed_of, items_exist}
use Rattle.model.proofs.FormedStores.{write_formed, copy_formed}
use Rattle.model.proofs.FormedMoves.{activated_contents}
use Rattle.model.proofs.OperationRange.{InRange, read-ranged}
use Rattle.model.proofs.Zones.{concerned_zone}
use Rattle.model.proofs.StateLaws.{view-layout, apply_shape}
use Rattle.state.proofs.Places.{view_shape}
use Rattle.effect.specs.Fit.{Fit}
use Rattle.effect.proofs.Effects.{fit}
use Rattle.green.specs.Rule.{Narrow}
use Rattle.scene.specs.Scene.{Searchable}
use Rattle.scene.proofs.Accepting.{searchable_lem}
use Rattle.searches.specs.Ready.{Accepted, Ready, Complete, Asked}
use Rattle.searches.specs.Asking.{follows, InTable}

pub accepted_of : (file : List ℕ) {l : Loaded} → l ≡ load file → l.answer ≡ 0 → Accepted l.config
accepted_of file e z = record {
  file = file;
  yes = ap (λ (x : Loaded). x.answer) (sym e) ∙ z;
  same = ap (λ (x : Loaded). x.config) e;
}

sound_of : (config : Config) → Accepted config → Sound config
sound_of config a = subst Sound (sym a.same) (load-sound a.file a.yes)

-- questions 7 and 9 make an area that can be searched
searchable : (config : Config) (room : ℕ) → config.counts.objects ≤ room → Sound config → (b : State)
    → ((n : ℕ) → 1 ≤ n → n ≤ room → right_content config n (content_of b n) ≡ true) → Searchable config room b
searchable config room fits sound b contents =
    searchable_lem config sound room b fits (λ o i. contents o i.low (omega (arith, i.high, fits)))

pub ready_of : (config : Config) (room : ℕ) (area : List ℕ) → Accepted config
    → (config.counts.objects ≤ room) × (room ≤ most_objects)
    → {t₇ : Bool} → t₇ ≡ eqb (length area) (area_length room) → t₇ ≡ true
    → {t₉ : Bool} → t₉ ≡ well_formed room config (view room area) → t₉ ≡ true → Ready config room area
ready_of config room area a k e₇ y₇ e₉ y₉ =
    let long : length area ≡ area_length room = eqb-true (length area) (area_length room) (sym e₇ ∙ y₇) in
    let h : well_formed room config (view room area) ≡ true = sym e₉ ∙ y₉ in
    record {
      accepted = a;
      fits = k.0;
      most = k.1;
      long = long;
      formed = h;
      searchable = searchable config room k.0 (sound_of config a) (view room area)
          (formed_of room config (view room area) h).contents;
    }

pub complete_of : (bytes : List ℕ) {q : ℕ} {op : Operation} → q ≡ (read_operation bytes).0
    → op ≡ (read_operation bytes).1 → q ≡ 0 → Complete op
complete_of bytes e o z = record { bytes = bytes; yes = sym e ∙ z; same = o }

ranged : (op : Operation) → Complete op → InRange op
ranged op c = subst InRange (sym c.same) (read-ranged c.bytes c.yes)

-- the room that an accepted configuration's count asks for
pub room_of : (config : Config) → Accepted config → {room : ℕ} → room ≡ room_for config.counts.objects
    → (config.counts.objects ≤ room) × (room ≤ most_objects)
room_of config a k = rw k (objects_room config (sound_of config a), room_most config.counts.objects)

pub room_small : (room : ℕ) → room ≤ most_objects → room ≤ most_number
room_small room h = omega arith

-- questions 11 and 13: what a write stores into kind 1 is a value
stored-value : (config : Config) (op : Operation) (a : Actor) → q11 config op Write a ≡ true
    → q13 config op Write ≡ true → (i : ℕ) → i < op.count → kind_of config (object_at op i) ≡ 1
    → second_at op i ≤ config.counts.values
unfolding q13
stored-value config op a h m i l k =
    let x : item_exists config op Write i ≡ true = items_exist config op Write a h i l in
    let y : item_fits config op Write i ≡ true = below_at op.count (item_fits config op Write) m i l in
    let z = number (is_kind config 1 (object_at op i)) (form_at op i) (eq-eqb (kind_of config (object_at op i)) 1 k)
    (and_r (not (is_kind config 4 (object_at op i))) _ y) in
    leb-true (second_at op i) config.counts.values
    (value (eqb (form_at op i) 1) _ (ne_eqb (form_at op i) 1 (λ e. absurd (omega arith)))
    (and_r (is_object config (object_at op i)) _ x))
  where
    number : (s : Bool) (form : ℕ) → s ≡ true → beq s (eqb form 0) ≡ true → form ≡ 0
    number true form e h = eqb-true form 0 (same (eqb form 0) h)
      where
        same : (t : Bool) → beq true t ≡ true → t ≡ true
        same true h = refl
        same false h = absurd (false≢true h)
    number false form e h = absurd (false≢true e)

    value : (s t : Bool) → s ≡ false → s || t ≡ true → t ≡ true
    value true t e h = absurd (true≢false e)
    value false t e h = h

pub next-state : (config : Config) (op : Operation) (f : Family) (a : Actor) (b : State) → Asked config op f a
    → applied config op b ≡ apply config op f a b
next-state config op f a b asked =
    sym (ap (λ (x : Family). apply config op x a b) asked.family
    ∙ ap (λ (x : Actor). apply config op (family_of op.code) x b) asked.actor)

-- the state that would follow
module _ (config : Config) (room : ℕ) (area : List ℕ) (op : Operation) (f : Family) (a : Actor)
    (ready : Ready config room area) (asked : Asked config op f a) where
  sound : Sound config
  sound = sound_of config ready.accepted

  q11_code : q11 config op (family_of op.code) (actor_of op.code) ≡ true
  q11_code =
      subst (λ (x : Family). q11 config op x (actor_of op.code) ≡ true) asked.family
      (subst (λ (x : Actor). q11 config op f x ≡ true) asked.actor asked.p11)

  pub fit_of : (s answer : List ℕ) → length s ≡ area_length room → answer_bytes ≤ length answer → Fit room op s answer
  fit_of s answer long d =
      let v : config.counts.values ≤ most_values = sound.few.values in
      fit room config op s answer long d (ranged op asked.complete) (omega arith) q11_code

  pub spare_fit : Fit room op area (replicate answer_bytes 0)
  spare_fit = fit_of area (replicate answer_bytes 0) ready.long (omega arith)

  pub few-objects : config.counts.objects ≤ most_objects
  few-objects = sound.few.objects

  -- question 20: listed objects are places of the table
  pub small_of : f ≡ Deactivate → InTable op.objects op.count
  unfolding InTable
  small_of e i l =
      let h : q11 config op Deactivate a ≡ true = subst (λ (x : Family). q11 config op x a ≡ true) e asked.p11 in
      let x : is_object config (object_at op i) ≡ true = items_exist config op Deactivate a h i l in
      omega (arith, from1to-high (object_at op i) config.counts.objects x, few-objects)

  -- question 22: the value numbers that a write stores into kind 1 fit a byte
  pub narrow_of : Narrow config.objects.kind op f
  unfolding Narrow q13
  narrow_of e i l k =
      let h : q11 config op Write a ≡ true = subst (λ (x : Family). q11 config op x a ≡ true) e asked.p11 in
      let m : q13 config op Write ≡ true = subst (λ (x : Family). q13 config op x ≡ true) e asked.p13 in
      let v : config.counts.values ≤ most_values = sound.few.values in
      omega (arith, stored-value config op a h m i l k)

  -- question 20: what leaves is in one zone
  pub zone_of_lem : f ≡ Deactivate → q17 (view room area) op f a ≡ true → (n : ℕ) → concerned config op a n ≡ true
      → object_in (view room area) n ≡ zone_of (view room area) op a
  zone_of_lem e h =
      concerned_zone room config ready.fits (view room area) ready.formed op a
      (subst (λ (x : Family). q17 (view room area) op x a ≡ true) e h)

  -- contents are right in the state that would follow
  abbrev Right : State → Type 0
  Right b = (n : ℕ) → 1 ≤ n → n ≤ room → right_content config n (content_of b n) ≡ true

  abbrev before : State
  before = view room area

  formed : Formed room config before
  formed = formed_of room config before ready.formed

  followed_right : (g : Family) (c : Actor) → follows before op g c ≡ true → q11 config op g c ≡ true
      → q13 config op g ≡ true → Right (apply config op g c before)
  unfolding apply
  followed_right Write c h p q = (write_formed room config ready.fits op before formed c p q).contents
  followed_right Copy c h p q = (copy_formed room config ready.fits op before formed c p q).contents
  followed_right Activate c h p q =
      activated_contents room config op before (view_shape room area).contents formed.contents c p
  followed_right g c h p q = absurd (false≢true h)

  pub next-searchable : follows before op f a ≡ true → Searchable config room (applied config op before)
  next-searchable h =
      subst (Searchable config room) (sym (next-state config op f a before asked))
      (searchable config room ready.fits sound (apply config op f a before)
      (followed_right f a h asked.p11 asked.p13))

-- all questions are answered with yes
pub passed_fit : (config : Config) (room : ℕ) (area answer : List ℕ) (op : Operation) → Ready config room area
    → Complete op → {q : ℕ} → q ≡ judged config op (view room area) → q ≡ 0 → answer_bytes ≤ length answer
    → Fit room op area answer
passed_fit config room area answer op ready complete e z d =
    let p = passed config (view room area) op (family_of op.code) (actor_of op.code) (sym e ∙ z) in
    fit_of config room area op (family_of op.code) (actor_of op.code) ready
    (record { complete = complete; family = refl; actor = refl; p11 = p.p11; p13 = p.p13 }) area answer
    ready.long d

-- the area that an operation leaves shows the state that would follow
pub next-view : (config : Config) (op : Operation) (room : ℕ) (area : List ℕ) {s : List ℕ}
    → s ≡ layout (applied config op (view room area)) → view room s ≡ applied config op (view room area)
next-view config op room area e =
    ap (view room) e
    ∙ view-layout room (applied config op (view room area))
    (apply_shape room config op (family_of op.code) (actor_of op.code) (view room area) (view_shape room area))
