mod OneSlot
