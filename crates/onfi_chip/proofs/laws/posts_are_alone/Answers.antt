use Rattle.std.proofs.Common.{◌≡◌, List, [], ◌∷◌, refl, ap, ◌∙◌}
use Rattle.std.specs.Prelude.{map}
use Rattle.std.specs.List.{AllByRecursion as Each}
use Rattle.onfi_request.specs.declared.answer.Answer.{Answer}
use Rattle.onfi_request.specs.declared.request.Request.{Request}
use Rattle.onfi_die.specs.Shapes.{Device}
use Rattle.onfi_die.specs.Blocks.{Blocks, changed}
use Rattle.onfi_die.specs.Apart.{OnOthers, AreApart}
use Rattle.onfi_chip.specs.declared.post.Post.{Post}
use Rattle.onfi_chip.specs.Alone.{post_now, PostsAreAlone}
use Rattle.onfi_chip.proofs.laws.posts_are_alone.Goals as goal

unmoved : AreApart → (device : Device) (a : Request) (blocks : Blocks) (rs : List Request) → Each (OnOthers a) rs → map (post_now device (changed device a blocks)) rs ≡ map (post_now device blocks) rs
unmoved apart device a blocks [] h = refl
unmoved apart device a blocks (r ∷ rs) h =
    let here : post_now device (changed device a blocks) r ≡ post_now device blocks r = ap (λ (x : Answer). record { kind = r.kind; place = r.place; answer = x }) (apart.two device a r blocks h.0).second in
    ap (λ (p : Post). p ∷ map (post_now device (changed device a blocks)) rs) here ∙ ap (λ ps. post_now device blocks r ∷ ps) (unmoved apart device a blocks rs h.1)

alone : AreApart → PostsAreAlone
alone apart device [] blocks h = refl
alone apart device (r ∷ rs) blocks h = ap (λ ps. post_now device blocks r ∷ ps) (alone apart device rs (changed device r blocks) h.1 ∙ unmoved apart device r blocks rs h.0)

pub returns : goal.returns
returns c = alone c.blocks_are_apart.ensures
