-- `closure::begin::first` meets its contract: the kind says whether there is a value, and a device. Assumes nothing.
use lib.Bits.{or_zero_l}
use lib.ListN.{get_or}
use mathlib.Core.Path.{◌≡◌, subst}
use Prim.Native.Nat.{ℕ}
use native.Mathlib.Omega.{arith}
use Rattle.state.specs.Shown.{shown}
use Rattle.closure.specs.Words.{FirstWord}
use Rattle.closure.specs.Search.{closure_of}
use Rattle.closure.proofs.Starting.{own-kind, first_word, value_none}
use Rattle.scene.proofs.Ranges.{starts_never}
use Rattle.closure.proofs.begin.first.Goals as goal

pub returns-in-1 : goal.returns-in-1
returns-in-1 c =
    let m = closure_of c.args.config.now (shown c.args.area.now) in
    subst (λ (x : ℕ). FirstWord m c.args.o x) (or_zero_l c.value_of.result)
    (first_word m c.args.o 0 c.requires.owners_ok c.requires.object
    (own-kind m.config m.state c.args.o (λ e. omega arith)) c.value_of.result c.value_of.ensures)

pub returns-in-4 : goal.returns-in-4
returns-in-4 c =
    first_word (closure_of c.args.config.now (shown c.args.area.now)) c.args.o c.owner_of.result c.requires.owners_ok
    c.requires.object c.owner_of.ensures c.value_of-in-4.result
    c.value_of-in-4.ensures

pub returns-in_default : goal.returns-in_default
returns-in_default c =
    let m = closure_of c.args.config.now (shown c.args.area.now) in
    let four : get_or m.config.objects.kind c.args.o 0 ≡ 4 → ⊥ = λ e. omega arith in
    first_word m c.args.o 0 c.requires.owners_ok c.requires.object (own-kind m.config m.state c.args.o four) 0
    (value_none m.config m.state c.args.o
    (starts_never m.config.objects.kind m.state c.args.o (λ e. omega arith) four))
