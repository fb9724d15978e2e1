-- The numbers that actions and roles have in a table, and the action and the role of a number.
use Rattle.std.specs.Prelude.{ℕ, true, false, eqb}
use Rattle.stepwise.specs.Inner.Rows.{gives_constant, gives_named, enters_part, tags_node, looks_at_tree, calls_function}
use Rattle.stepwise.specs.Inner.Rows.{whole, kept, added, tested, passed, labelled, followed, last_argument}
use Rattle.frames.specs.declared.Action.{Action}
use Rattle.frames.specs.declared.Action.TheVariants.{GivesConstant, GivesNamed, EntersPart, TagsNode, LooksAtTree, CallsFunction}
use Rattle.frames.specs.declared.Role.{Role}
use Rattle.frames.specs.declared.Role.TheVariants.{Whole, Kept, Added, Tested, Passed, Labelled, Followed, LastArgument}

abbrev pub action_number : Action → ℕ
action_number GivesConstant = gives_constant
action_number GivesNamed = gives_named
action_number EntersPart = enters_part
action_number TagsNode = tags_node
action_number LooksAtTree = looks_at_tree
action_number CallsFunction = calls_function

abbrev pub role_number : Role → ℕ
role_number Whole = whole
role_number Kept = kept
role_number Added = added
role_number Tested = tested
role_number Passed = passed
role_number Labelled = labelled
role_number Followed = followed
role_number LastArgument = last_argument

-- The action of a number: with any other number the first part begins.
unfoldable pub action_of_number : ℕ → Action
action_of_number n =
    elim (eqb n gives_constant) [
      | true ↦ GivesConstant
      | false ↦
          elim (eqb n gives_named) [
            | true ↦ GivesNamed
            | false ↦
                elim (eqb n tags_node) [
                  | true ↦ TagsNode
                  | false ↦
                      elim (eqb n looks_at_tree) [
                        | true ↦ LooksAtTree
                        | false ↦ elim (eqb n calls_function) [ true ↦ CallsFunction | false ↦ EntersPart ]
                      ]
                ]
          ]
    ]

-- The role of a number: any other number is that of a last argument.
unfoldable pub role_of_number : ℕ → Role
role_of_number n =
    elim (eqb n whole) [
      | true ↦ Whole
      | false ↦
          elim (eqb n kept) [
            | true ↦ Kept
            | false ↦
                elim (eqb n added) [
                  | true ↦ Added
                  | false ↦
                      elim (eqb n tested) [
                        | true ↦ Tested
                        | false ↦
                            elim (eqb n passed) [
                              | true ↦ Passed
                              | false ↦
                                  elim (eqb n labelled) [
                                    | true ↦ Labelled
                                    | false ↦ elim (eqb n followed) [ true ↦ Followed | false ↦ LastArgument ]
                                  ]
                            ]
                      ]
                ]
          ]
    ]
