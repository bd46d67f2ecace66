-- Laws of tests, and what the tests of a row and its stage say. Assumes nothing.
use mathlib.Core.Path.{◌≡◌, refl, ◌∙◌, sym}
use mathlib.Core.Bool.{Bool, true, false, not, ◌&&◌, ◌||◌, true≢false}
use Prim.Native.Nat.{ℕ, ◌+◌, ◌-◌, ◌≤◌, ◌<◌}
use native.Mathlib.Omega.{arith}
use lib.Dec.{leb, ltb, eqb}
use borrow.Author.Tests.{ltb-true, leb-true, leb-false, lt-ltb, le-ltb, le-leb, eqb-true, eq-eqb}
use Rattle.machine.specs.declared.Stage.{Stage}
use Rattle.machine.specs.declared.Row.{Row}
use Rattle.machine.specs.Rows.{age, is_never}
use Rattle.machine.specs.WellFormed.{in_limits, within_limits, offset_fits, fields_fit, is_blank}

pub both : (x y : Bool) → (x && y) ≡ true → (x ≡ true) × (y ≡ true)
both true y e = (refl, e)
both false y e = absurd (true≢false (sym e))

pub and_false : (x : Bool) → (x && false) ≡ false
and_false true = refl
and_false false = refl

pub and_true : (x : Bool) → (x && true) ≡ x
and_true true = refl
and_true false = refl

-- the first of two tests fails, where the second holds and both don't
pub first_fails : (x y : Bool) → y ≡ true → (x && y) ≡ false → x ≡ false
first_fails true y e h = absurd (true≢false (sym e ∙ h))
first_fails false y e h = refl

pub or_false_right : (x y : Bool) → (x || y) ≡ false → y ≡ false
or_false_right true y e = absurd (true≢false e)
or_false_right false y e = e

-- two tests are the same where each follows from the other
pub same_test : (x y : Bool) → (x ≡ true → y ≡ true) → (y ≡ true → x ≡ true) → x ≡ y
same_test true true f g = refl
same_test true false f g = sym (f refl)
same_test false true f g = g refl
same_test false false f g = refl

pub not_leb : (x y : ℕ) → ltb y x ≡ not (leb x y)
not_leb x y = go (leb x y) refl
  where
    go : (b : Bool) → leb x y ≡ b → ltb y x ≡ not b
    go true e = le-ltb y x (leb-true x y e)
    go false e = lt-ltb y x (leb-false x y e)

-- the last tick of a hypertask
pub last_tick : (l : ℕ) → leb l 1 ≡ eqb (l - 1) 0
last_tick l =
    same_test (leb l 1) (eqb (l - 1) 0)
    (λ q. eq-eqb (l - 1) 0 (omega (arith, leb-true l 1 q)))
    (λ q. le-leb l 1 (omega (arith, eqb-true (l - 1) 0 q)))

-- the age of a job: what the arrival lacks to the clock; none when it arrives, and one more with each tick
pub age_sum : (clock arrival : ℕ) → arrival ≤ clock → arrival + age clock arrival ≡ clock
unfolding age
age_sum clock arrival h = omega arith

pub age_now : (clock : ℕ) → age clock clock ≡ 0
unfolding age
age_now clock = omega arith

pub age_next : (clock arrival : ℕ) → arrival ≤ clock → age (clock + 1) arrival ≡ age clock arrival + 1
unfolding age
age_next clock arrival h = omega arith

-- what fields that fit say, as numbers
pub record Fields (r : Row) : Type 0 where
  pub period : r.t ≤ 1_000_000
  pub deadline : r.d ≤ r.t
  pub offset : r.e < r.d
  pub some_offset : 1 ≤ r.e
  pub some_guest : 1 ≤ r.c
  pub guest : r.c ≤ 1_000_000
  pub some_hypertask : 1 ≤ r.k
  pub hypertask : r.k ≤ 1_000_000

pub fields_say : (r : Row) → fields_fit r ≡ true → Fields r
unfolding fields_fit
fields_say r h =
    let z = both (within_limits r) (offset_fits r) h in
    let a = both (in_limits r.t) (in_limits r.d && (in_limits r.c && (in_limits r.k && leb r.d r.t))) z.0 in
    let b = both (in_limits r.d) (in_limits r.c && (in_limits r.k && leb r.d r.t)) a.1 in
    let d = both (in_limits r.c) (in_limits r.k && leb r.d r.t) b.1 in
    let e = both (in_limits r.k) (leb r.d r.t) d.1 in
    let t = both (leb 1 r.t) (leb r.t 1_000_000) a.0 in
    let c = both (leb 1 r.c) (leb r.c 1_000_000) d.0 in
    let k = both (leb 1 r.k) (leb r.k 1_000_000) e.0 in
    let o = both (leb 1 r.e) (ltb r.e r.d) z.1 in
    record {
      period = leb-true r.t 1_000_000 t.1;
      deadline = leb-true r.d r.t e.1;
      offset = ltb-true r.e r.d o.1;
      some_offset = leb-true 1 r.e o.0;
      some_guest = leb-true 1 r.c c.0;
      guest = leb-true r.c 1_000_000 c.1;
      some_hypertask = leb-true 1 r.k k.0;
      hypertask = leb-true r.k 1_000_000 k.1;
    }

pub fields_fit_lem : (r : Row) → Fields r → fields_fit r ≡ true
unfolding fields_fit
fields_fit_lem r f =
    let t1 : 1 ≤ r.t = omega arith in
    let d1 : 1 ≤ r.d = omega arith in
    let d2 : r.d ≤ 1_000_000 = omega arith in
    rw (
      le-leb 1 r.t t1,
      le-leb r.t 1_000_000 f.period,
      le-leb 1 r.d d1,
      le-leb r.d 1_000_000 d2,
      le-leb 1 r.c f.some_guest,
      le-leb r.c 1_000_000 f.guest,
      le-leb 1 r.k f.some_hypertask,
      le-leb r.k 1_000_000 f.hypertask,
      le-leb r.d r.t f.deadline,
      le-leb 1 r.e f.some_offset,
      lt-ltb r.e r.d f.offset,
    )

-- the six tests that settle them
abbrev short_test : Row → Bool
short_test r = leb r.t 1_000_000 && (leb r.d r.t && (ltb r.e r.d && (leb 1 r.e && (in_limits r.c && in_limits r.k))))

short_says : (r : Row) → short_test r ≡ true → Fields r
short_says r h =
    let a = both (leb r.t 1_000_000) (leb r.d r.t && (ltb r.e r.d && (leb 1 r.e && (in_limits r.c && in_limits r.k)))) h in
    let b = both (leb r.d r.t) (ltb r.e r.d && (leb 1 r.e && (in_limits r.c && in_limits r.k))) a.1 in
    let d = both (ltb r.e r.d) (leb 1 r.e && (in_limits r.c && in_limits r.k)) b.1 in
    let e = both (leb 1 r.e) (in_limits r.c && in_limits r.k) d.1 in
    let f = both (in_limits r.c) (in_limits r.k) e.1 in
    let c = both (leb 1 r.c) (leb r.c 1_000_000) f.0 in
    let k = both (leb 1 r.k) (leb r.k 1_000_000) f.1 in
    record {
      period = leb-true r.t 1_000_000 a.0;
      deadline = leb-true r.d r.t b.0;
      offset = ltb-true r.e r.d d.0;
      some_offset = leb-true 1 r.e e.0;
      some_guest = leb-true 1 r.c c.0;
      guest = leb-true r.c 1_000_000 c.1;
      some_hypertask = leb-true 1 r.k k.0;
      hypertask = leb-true r.k 1_000_000 k.1;
    }

short_holds : (r : Row) → Fields r → short_test r ≡ true
short_holds r f =
    rw (
      le-leb r.t 1_000_000 f.period,
      le-leb r.d r.t f.deadline,
      lt-ltb r.e r.d f.offset,
      le-leb 1 r.e f.some_offset,
      le-leb 1 r.c f.some_guest,
      le-leb r.c 1_000_000 f.guest,
      le-leb 1 r.k f.some_hypertask,
      le-leb r.k 1_000_000 f.hypertask,
    )

pub fields_law : (r : Row)
    → (leb r.t 1_000_000 && (leb r.d r.t && (ltb r.e r.d && (leb 1 r.e && (in_limits r.c && in_limits r.k))))) ≡ fields_fit r
fields_law r = same_test (short_test r) (fields_fit r) (λ q. fields_fit_lem r (short_says r q)) (λ q. short_holds r (fields_say r q))

-- a blank place is Never
never_is : (s : Stage) → is_never s ≡ true → s ≡ Stage.Never
never_is Stage.Never h = refl
never_is (Stage.Guest a u) h = absurd (true≢false (sym h))
never_is (Stage.Hyper a l) h = absurd (true≢false (sym h))
never_is (Stage.Closed a) h = absurd (true≢false (sym h))

pub blank_never : (r : Row) → is_blank r ≡ true → r.stage ≡ Stage.Never
unfolding is_blank
blank_never r h =
    let s : Bool = is_never r.stage in
    let a = both (eqb r.t 0) (eqb r.d 0 && (eqb r.c 0 && (eqb r.k 0 && (eqb r.e 0 && s)))) h in
    let b = both (eqb r.d 0) (eqb r.c 0 && (eqb r.k 0 && (eqb r.e 0 && s))) a.1 in
    let c = both (eqb r.c 0) (eqb r.k 0 && (eqb r.e 0 && s)) b.1 in
    let d = both (eqb r.k 0) (eqb r.e 0 && s) c.1 in
    never_is r.stage (both (eqb r.e 0) s d.1).1
