use Rattle.std.proofs.Common.{◌≡◌, ◌*◌, ◌-◌, ◌^◌, ◌∙◌, ap, arith, length}
use Rattle.std.proofs.lemmas.Result.{IfOk-weaker}
use Rattle.std.proofs.lemmas.Grind.{common_steps}
use Rattle.fixed_decimal.specs.Size.{weighed, size, finest}
use Rattle.scaled_units.proofs.Products.{front_room, product_size, fraction_length}
use Rattle.scaled_units.proofs.product.times_power.Goals as goal
use Rattle.scaled_units.proofs.product.times_power.Goals.{Joined-digits}

pub multiply_times-requires-clause-room : goal.multiply_times-requires-clause-room
multiply_times-requires-clause-room c =
    let e = c.as_mut_slice.ensures.value ∙ c.in-Ok.ensures.digits in
    rw e (front_room c.args.value.now.digits (7 * c.args.power) c.in-Ok.ensures.valid.below_ten)

-- how many digits the number has below power 0
scale_is : (c : Joined-digits) → length c.fraction.result.now ≡ c.args.value.now.scale
scale_is c =
    ap length c.fraction.ensures.digits ∙ fraction_length c.args.value.now c.fraction.ensures.valid.integer_some

-- what the multiplied digits weigh
weight_is : (c : Joined-digits) → weighed (finest - length c.fraction.result.now) c.deref.result.now ≡ size c.args.value.now * c.args.factor ^ c.args.power
weight_is c =
    let e : c.deref.result.now ≡ c.multiply_times.new.digits = grind (arith, common_steps) in
    let z = 7 * c.args.power in
    let before = c.as_mut_slice.ensures.value ∙ c.in-Ok.ensures.digits in
    let product = c.multiply_times.ensures.product ∙ ap (λ l. weighed 0 l * c.args.factor ^ c.args.power) before in
    ap (λ n. weighed (finest - n) c.deref.result.now) (scale_is c) ∙ ap (weighed (finest - c.args.value.now.scale)) e
    ∙ product_size c.args.value.now.digits c.multiply_times.new.digits z (finest - c.args.value.now.scale) (c.args.factor ^ c.args.power) product

pub returns-clause-size : goal.returns-clause-size
returns-clause-size c = IfOk-weaker c.absolute_of.result _ _ (λ y e. e ∙ weight_is c) c.absolute_of.ensures.size

pub returns-clause-limit : goal.returns-clause-limit
returns-clause-limit c = λ h. rw (← weight_is c) (c.absolute_of.ensures.limit h)

pub returns-clause-scale : goal.returns-clause-scale
returns-clause-scale c = IfOk-weaker c.absolute_of.result _ _ (λ y e. e ∙ scale_is c) c.absolute_of.ensures.scale
