-- What a shape of the code stands for.
use Rattle.dy_flat.specs.declared.shapes.Shape.{Shape}
use Rattle.dy_flat.specs.declared.shapes.Shape.TheVariants as code
use Rattle.dy_flat.specs.Shapes as shapes

abbrev pub shape_of : Shape → shapes.Shape
shape_of (code.Lit text) = shapes.Lit text.now
shape_of (code.Name principal) = shapes.Name principal.now
shape_of (code.Nonce index) = shapes.Nonce index
shape_of code.Pair = shapes.Pair
shape_of code.Pk = shapes.Pk
shape_of code.Vk = shapes.Vk
shape_of code.Penc = shapes.Penc
shape_of code.Aead = shapes.Aead
shape_of code.Sign = shapes.Sign
shape_of code.Mac = shapes.Mac
shape_of (code.Kdf context) = shapes.Kdf context.now
shape_of code.Hash = shapes.Hash
