-- What is promised of lists of calls from a fresh state is promised from every area on the way.
use Prim.Native.Nat.{ℕ}
use mathlib.Core.Path.{◌≡◌, refl, sym, ap, ◌∙◌, subst}
use mathlib.Core.List.{List, [], ◌∷◌, ◌++◌}
use mathlib.Core.Bool.{true}
use Rattle.model.specs.State.{State, device_in, lock_of, view, layout, well_formed}
use Rattle.model.specs.Closure.{Reads, confined}
use Rattle.sources.specs.Gate.{Source, config_of, fresh_on, operate_on}
use Rattle.model.specs.Trace.{Transfer, Traces}
use Rattle.model.specs.Separation.{Call, after_call, state_after, Hardcoded, EachCall, Contained, operations_of}
use Rattle.sources.specs.Separation.{answers_of, area_after, initial, final}
use Rattle.model.specs.Green.{Green, PassesSearch}
use Rattle.model.specs.Locks.{KeptOut}
use Rattle.sources.specs.Locks.{LockedOut}
use Rattle.model.specs.declared.Family.TheVariants.{Write, Copy}
use Rattle.model.specs.declared.Config.{Config}
use Rattle.model.proofs.StateLaws.{view-layout}
use Rattle.sources.proofs.Sources.{Fits}
use Rattle.sources.proofs.Reached.{reached_state, reached_formed}
use Rattle.sources.proofs.Separation.{separation_on}
use Rattle.sources.proofs.GreenPasses.{reached_green_on, green-passes_on}
use Rattle.sources.proofs.Locks.{locked_out_on}
use Rattle.continuity.specs.Carried.{shown, later, LockedFrom, Promised}

-- lists of calls one after the other
module _ (source : Source) where
  pub area_append : (xs ys : List Call) (a : List ℕ)
      → area_after source a (xs ++ ys) ≡ area_after source (area_after source a xs) ys
  area_append [] ys a = refl
  area_append (x ∷ xs) ys a = area_append xs ys (operate_on source a x.bytes x.answer).1

  state_append : (xs ys : List Call) (b : State) (a : List ℕ)
      → state_after (config_of source) b (operations_of (xs ++ ys)) (answers_of source a (xs ++ ys))
      ≡ state_after (config_of source) (state_after (config_of source) b (operations_of xs) (answers_of source a xs))
      (operations_of ys) (answers_of source (area_after source a xs) ys)
  state_append [] ys b a = refl
  state_append (x ∷ xs) ys b a =
      let o = operate_on source a x.bytes x.answer in
      state_append xs ys (after_call (config_of source) b x.bytes o.0) o.1

  each_append : (xs ys : List Call) (b : State) (a : List ℕ)
      → EachCall (config_of source) b (operations_of (xs ++ ys)) (answers_of source a (xs ++ ys))
      → EachCall (config_of source) (state_after (config_of source) b (operations_of xs) (answers_of source a xs))
      (operations_of ys) (answers_of source (area_after source a xs) ys)
  each_append [] ys b a e = e
  each_append (x ∷ xs) ys b a e =
      let o = operate_on source a x.bytes x.answer in
      each_append xs ys (after_call (config_of source) b x.bytes o.0) o.1 e.2

module _ (source : Source) (fits : Fits source) (start : List ℕ) (h : (fresh_on source start).0 ≡ 0)
    (led calls : List Call) where
  abbrev first : List ℕ
  first = (fresh_on source start).1

  abbrev s : List ℕ
  s = area_after source first led

  abbrev config : Config
  config = config_of source

  abbrev whole : List Call
  whole = led ++ calls

  book : final source first led ≡ shown source s
  book =
      let r = reached_state source fits start h led in
      sym (ap (view source.room) r.2 ∙ view-layout source.room (final source first led) r.0.shape)

  went : final source first whole ≡ later source s calls
  went =
      state_append source led calls (initial source) first
      ∙ ap (λ (b : State). state_after config b (operations_of calls) (answers_of source s calls)) book

  area_went : area_after source first whole ≡ area_after source s calls
  area_went = area_append source led calls first

  locked_from : (c : ℕ) → lock_of (later source s calls) c ≡ 1 → LockedFrom source s calls c
  locked_from c l =
      let q : LockedOut source first whole c =
      locked_out_on source fits start h whole c (subst (λ (b : State). lock_of b c ≡ 1) (sym went) l) in
      record {
        outside = subst (λ (b : State). device_in b c ≡ 0) went q.outside;
        no_entry = subst (λ (b : State). (o v : ℕ) → Reads config true b c o v → ⊥) went q.no_entry;
        since = λ more. subst (λ (b : State). KeptOut config b c (operations_of more)
            (answers_of source (area_after source s calls) more)) went
            (subst (λ (a : List ℕ). KeptOut config (final source first whole) c (operations_of more)
            (answers_of source a more)) area_went (q.later more));
      }

  pub promised : Promised source s calls
  promised =
      let sep = separation_on source fits start h whole in
      let g = reached_green_on source fits start h whole in
      record {
        same = sym area_went ∙ (sep.same ∙ ap layout went);
        each = subst (λ (b : State). EachCall config b (operations_of calls) (answers_of source s calls)) book
            (each_append source led calls (initial source) first sep.each);
        hardcoded = subst (λ (b : State). Hardcoded config b) book
            (reached_state source fits start h led).0.hardcoded;
        contained = subst (λ (b : State). (trace : List Transfer) → Traces config b trace → Contained config b trace)
            went sep.contained;
        formed = subst (λ (b : State). well_formed source.room config b ≡ true) went
            (reached_formed source fits start h whole);
        greens = subst (λ (b : State). Green config b) went g.0;
        clean = subst (λ (b : State). confined config b ≡ true) went g.1;
        passes = λ op. subst (λ (b : State). PassesSearch config b op Write × PassesSearch config b op Copy) went
            (green-passes_on source fits start h whole op);
        locked = locked_from;
      }
