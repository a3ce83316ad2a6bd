-- Spreading over any float steps, in the order of reading: what the steps are, the definition, and the claim that it does not depend on the order of its starts. There is no code to these files; `walks` and `inner` prove their loops by proofs/SpreadLaws/Branches.antt and Bodies.antt.
pub mod Steps
pub mod Spread
pub mod Order
